-- `word::ScalarWord::fields` meets its contract. Assumes nothing.
use native.Mathlib.Nat.{div-one}
use Rattle.word.proofs.ScalarWord.fields.Goals as goal

pub returns : goal.returns
returns c = simp (c.operation_of-op.ensures, div-one)
