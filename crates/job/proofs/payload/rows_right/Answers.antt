-- `job::payload::rows_right` meets its contract. Assumes nothing.
use Rattle.job.proofs.payload.rows_right.Goals as goal

pub returns : goal.returns
returns c = simp c.row_count-most.ensures
