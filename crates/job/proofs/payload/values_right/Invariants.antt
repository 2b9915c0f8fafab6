-- `job::payload::values_right` meets its contract: before number i each was tested. Assumes nothing.
use Rattle.job.specs.Kinds.{value_right}
use Rattle.control.proofs.Arrays.{Passed}
use Prim.Native.Nat.{◌-◌}
use Rattle.job.proofs.payload.values_right.Given as goal

abbrev pub invariant-loop-i : goal.invariant-loop-i
invariant-loop-i l = Passed (value_right l.limit l.p) l.n l.right l.i

abbrev pub decreases-loop-i : goal.decreases-loop-i
decreases-loop-i l = l.n - l.i
