-- `precheck::marking::mark` meets its contract: before place i all of the span is marked. Assumes nothing.
use mathlib.Core.Path.{◌≡◌}
use Prim.Native.Nat.{◌≤◌, ◌-◌}
use Rattle.cells.specs.Cells.{over, between}
use Rattle.precheck.proofs.marking.mark.Given as goal

abbrev pub invariant-loop-i : goal.invariant-loop-i
invariant-loop-i l = (l.marks ≡ over (between l.lo l.i) (λ _. l.on) l.initial.marks) × (l.lo ≤ l.i) × (l.i - l.lo ≤ l.end - l.lo)
