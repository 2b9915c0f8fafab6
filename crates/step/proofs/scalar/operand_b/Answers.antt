-- `step::scalar::operand_b` meets its contract. Assumes nothing.
use Rattle.step.proofs.scalar.operand_b.Goals as goal

pub returns : goal.returns
returns c = simp (c.if-s.false, c.value_at.ensures, c.register_at.ensures)
