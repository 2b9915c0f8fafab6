-- `found::what_at` meets its contract. Assumes nothing.
use native.Mathlib.Omega.{arith}
use Rattle.lines.proofs.Cursors.{rows_few}
use Rattle.lines.proofs.found.what_at.Goals as goal

pub overflow_add-result : goal.overflow_add-result
overflow_add-result c = let p = rw c.in-Rows.is at c.requires in record { fits = omega (arith, p.0.inside, p.1, rows_few c.in-Rows.width) }

pub returns-in-Rows : goal.returns-in-Rows
returns-in-Rows c = simp c.in-Rows.is

pub returns-in-Register : goal.returns-in-Register
returns-in-Register c = simp c.in-Register.is
