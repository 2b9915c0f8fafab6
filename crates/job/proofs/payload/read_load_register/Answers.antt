-- `job::payload::read_load_register` meets its contract. Assumes nothing.
use borrow.Author.Tests.{ne_eqb, eq-eqb}
use Rattle.job.specs.Kinds.{load_register}
use Rattle.job.proofs.payload.read_load_register.Goals as goal

pub returns-then-p-ne6 : goal.returns-then-p-ne6
unfolding load_register
returns-then-p-ne6 c = simp (ne_eqb _ _ c.if-p-ne6.true)

pub returns-then-register_right : goal.returns-then-register_right
unfolding load_register
returns-then-register_right c = simp (eq-eqb _ _ c.if-p-ne6.false, ← c.register_right.ensures, c.if-register_right.true)

pub returns : goal.returns
unfolding load_register
returns c = simp (eq-eqb _ _ c.if-p-ne6.false, ← c.register_right.ensures, c.if-register_right.false)
