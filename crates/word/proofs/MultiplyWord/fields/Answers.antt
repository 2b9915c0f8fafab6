-- `word::MultiplyWord::fields` meets its contract. Assumes nothing.
use native.Mathlib.Nat.{div-one}
use Rattle.word.proofs.MultiplyWord.fields.Goals as goal

pub returns : goal.returns
returns c = simp (c.multiply_slot.ensures, c.clear_of-clear.ensures, c.height_of-height.ensures, div-one)
