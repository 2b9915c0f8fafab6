-- `step::shifts::shift_left` meets its contract. Assumes nothing.
use Rattle.step.proofs.Columns.{from_left}
use Rattle.cells.specs.Cells.{over, between}
use Prim.Native.Nat.{◌≤◌}
use mathlib.Core.Path.{◌≡◌}
use Rattle.step.proofs.shifts.shift_left.Given as goal

abbrev pub invariant-loop-p : goal.invariant-loop-p
invariant-loop-p l = (l.file ≡ over (between l.lo l.p) (from_left l.gap l.end l.initial.file) l.initial.file) × (l.lo ≤ l.p) × (l.p ≤ l.hi)
