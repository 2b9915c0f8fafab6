-- `job::payload::read_load_rows` meets its contract. Assumes nothing.
use native.Mathlib.Omega.{arith}
use borrow.Author.Tests.{ne_eqb, eq-eqb, le-leb, lt-leb}
use Rattle.job.specs.Kinds.{row_bytes, load_rows}
use lib.ListN.{length}
use Prim.Native.Nat.{◌-◌, ◌/◌, ◌≤◌, ◌<◌}
use Rattle.job.proofs.payload.read_load_rows.Goals as goal

pub returns-then-len : goal.returns-then-len
unfolding load_rows
returns-then-len c = let h : (length c.args.p.now - 3) / row_bytes < 1 = omega arith in simp (lt-leb _ _ h)

pub returns-then-n-gt-MOST_ROWS : goal.returns-then-n-gt-MOST_ROWS
unfolding load_rows
returns-then-n-gt-MOST_ROWS c = let h : 1 ≤ (length c.args.p.now - 3) / row_bytes = omega arith in simp (le-leb _ _ h, lt-leb _ _ c.if-n-gt-MOST_ROWS.true)

pub returns-then-len-n : goal.returns-then-len-n
unfolding load_rows
returns-then-len-n c = let h : 1 ≤ (length c.args.p.now - 3) / row_bytes = omega arith in simp (le-leb _ _ h, le-leb _ _ c.if-n-gt-MOST_ROWS.false, ne_eqb _ _ c.if-len-n.true)

pub returns : goal.returns
unfolding load_rows
returns c = let h : 1 ≤ (length c.args.p.now - 3) / row_bytes = omega arith in simp (le-leb _ _ h, le-leb _ _ c.if-n-gt-MOST_ROWS.false, eq-eqb _ _ c.if-len-n.false, c.read_load_file.ensures, c.read2.ensures.0)
