-- `step::shifts::shift_right` meets its contract. Assumes nothing.
use Rattle.step.proofs.Columns.{from_right}
use Rattle.cells.specs.Cells.{over, between}
use lib.ListN.{get_or}
use Prim.Native.Nat.{◌+◌, ◌%◌, ◌≤◌, ◌-◌}
use mathlib.Core.Path.{◌≡◌}
use Rattle.step.proofs.shifts.shift_right.Given as goal

abbrev pub invariant-loop-p : goal.invariant-loop-p
invariant-loop-p l = (l.file ≡ over (between l.lo l.p) (from_right l.gap l.initial.file) l.initial.file) × (l.lo ≤ l.p) × (l.p ≤ l.hi) × ((l.p % 16 ≡ 0 → ⊥) → l.held ≡ get_or l.initial.file (l.p + l.gap - 1) 0)
