-- `word::decode::which_of` meets its contract. Assumes nothing.
use native.Mathlib.Nat.{div-one}
use Rattle.word.proofs.decode.which_of.Goals as goal

pub returns : goal.returns
returns c = simp div-one
