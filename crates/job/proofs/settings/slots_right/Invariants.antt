-- `job::settings::slots_right` meets its contract: before place s each slot was tested. Assumes nothing.
use Rattle.job.specs.Settings.{slot_right}
use Rattle.control.proofs.Arrays.{Passed}
use Prim.Native.Nat.{◌-◌}
use Rattle.job.proofs.settings.slots_right.Given as goal

abbrev pub invariant-loop-s : goal.invariant-loop-s
invariant-loop-s l = Passed (slot_right l.p l.b) 8 l.right l.s

abbrev pub decreases-loop-s : goal.decreases-loop-s
decreases-loop-s l = 8 - l.s
