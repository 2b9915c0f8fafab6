-- `job::payload::read_output_register` meets its contract. Assumes nothing.
use borrow.Author.Tests.{ne_eqb, eq-eqb}
use Rattle.job.specs.Kinds.{output_register}
use Rattle.job.proofs.payload.read_output_register.Goals as goal

pub returns-then-p-ne2 : goal.returns-then-p-ne2
unfolding output_register
returns-then-p-ne2 c = simp (ne_eqb _ _ c.if-p-ne2.true)

pub returns-then-register_right : goal.returns-then-register_right
unfolding output_register
returns-then-register_right c = simp (eq-eqb _ _ c.if-p-ne2.false, ← c.register_right.ensures, c.if-register_right.true)

pub returns : goal.returns
unfolding output_register
returns c = simp (eq-eqb _ _ c.if-p-ne2.false, ← c.register_right.ensures, c.if-register_right.false)
