-- `job::payload::read_zero_rows` meets its contract. Assumes nothing.
use borrow.Author.Tests.{ne_eqb, eq-eqb}
use Rattle.job.specs.Kinds.{zero_rows}
use Rattle.job.proofs.payload.read_zero_rows.Goals as goal

pub returns-then-p-ne4 : goal.returns-then-p-ne4
unfolding zero_rows
returns-then-p-ne4 c = simp (ne_eqb _ _ c.if-p-ne4.true)

pub returns-then-rows_right : goal.returns-then-rows_right
unfolding zero_rows
returns-then-rows_right c = let t = simp c.row_count.ensures at c.rows_right.ensures in simp (eq-eqb _ _ c.if-p-ne4.false, ← c.read2.ensures.0, ← c.read2-2.ensures.0, ← t, c.if-rows_right.true)

pub returns : goal.returns
unfolding zero_rows
returns c = let t = simp c.row_count.ensures at c.rows_right.ensures in simp (eq-eqb _ _ c.if-p-ne4.false, ← c.read2.ensures.0, ← c.read2-2.ensures.0, ← t, c.if-rows_right.false)
