-- `job::payload::read_hand_over` meets its contract: file by file. Assumes nothing.
use Rattle.job.specs.Kinds.{hand_over_file}
use borrow.Author.Tests.{ne_eqb, eq-eqb}
use native.Mathlib.Omega.{arith}
use Rattle.std.proofs.lemmas.Grind.{common_steps}
use Rattle.job.proofs.payload.read_hand_over.Goals as goal

pub returns-then-p-ne1 : goal.returns-then-p-ne1
unfolding hand_over_file
returns-then-p-ne1 c = simp (ne_eqb _ _ c.if-p-ne1.true)

pub returns-in-0 : goal.returns-in-0
unfolding hand_over_file
returns-in-0 c = simp (eq-eqb _ _ c.if-p-ne1.false, c.in-0.is)

pub returns-in-1 : goal.returns-in-1
unfolding hand_over_file
returns-in-1 c = simp (eq-eqb _ _ c.if-p-ne1.false, c.in-1.is)

pub returns-in_default : goal.returns-in_default
unfolding hand_over_file
returns-in_default c = grind (arith, common_steps)
