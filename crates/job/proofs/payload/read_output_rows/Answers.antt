-- `job::payload::read_output_rows` meets its contract. Assumes nothing.
use borrow.Author.Tests.{ne_eqb, eq-eqb}
use Rattle.job.specs.Kinds.{output_rows}
use Rattle.job.proofs.payload.read_output_rows.Goals as goal

pub returns-then-p-ne3 : goal.returns-then-p-ne3
unfolding output_rows
returns-then-p-ne3 c = simp (ne_eqb _ _ c.if-p-ne3.true)

pub returns-then-rows_right : goal.returns-then-rows_right
unfolding output_rows
returns-then-rows_right c = simp (eq-eqb _ _ c.if-p-ne3.false, ← c.read2.ensures.0, ← c.from.ensures, ← c.rows_right.ensures, c.if-rows_right.true)

pub returns : goal.returns
unfolding output_rows
returns c = simp (eq-eqb _ _ c.if-p-ne3.false, ← c.read2.ensures.0, ← c.from.ensures, ← c.rows_right.ensures, c.if-rows_right.false)
