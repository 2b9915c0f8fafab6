-- `word::ZeroSrcWord::fields` meets its contract. Assumes nothing.
use native.Mathlib.Nat.{div-one}
use Rattle.word.proofs.ZeroSrcWord.fields.Goals as goal

pub returns : goal.returns
returns c = simp div-one
