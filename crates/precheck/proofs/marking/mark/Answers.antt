-- `precheck::marking::mark` meets its contract: before place i all of the span is marked. Assumes nothing.
use mathlib.Core.Bool.{false}
use mathlib.Core.Path.{◌≡◌, refl, sym, ap, ◌∙◌}
use Prim.Native.Nat.{◌≤◌}
use native.Mathlib.Nat.{min-le_right}
use native.Mathlib.Omega.{arith}
use lib.ListN.{length}
use Rattle.cells.proofs.Cells.{length_over, turn, over_between_none}
use Rattle.precheck.proofs.Spans.{over_came, over_cut}
use Rattle.precheck.proofs.marking.mark.Goals as goal

pub loop-i-init : goal.loop-i-init
loop-i-init c = (sym (over_between_none _ false _ _), omega arith, omega arith)

pub bounds-marks-i : goal.bounds-marks-i
bounds-marks-i c = let args = c.args in
    let e : length c.loop-i.marks ≡ length args.marks.now = ap length c.loop-i.invariant.0 ∙ length_over _ _ _ in
    let h : c.min-end.result ≤ length args.marks.now = rw c.min-end.ensures (min-le_right args.hi (length args.marks.now)) in
    omega arith

pub loop-i-preserved : goal.loop-i-preserved
loop-i-preserved c = let args = c.args in
    let h : c.min-end.result ≤ length args.marks.now = rw c.min-end.ensures (min-le_right args.hi (length args.marks.now)) in (
      turn false (λ _. args.on) args.marks.now _ args.lo c.loop-i.i _ (omega arith) (omega arith) c.loop-i.invariant.0 refl,
      omega arith,
      omega arith,
    )

pub shape_of-marks : goal.shape_of-marks
shape_of-marks c = ap length c.loop-i.invariant.0 ∙ length_over _ _ _

pub returns : goal.returns
returns c = let args = c.args in
    c.loop-i.invariant.0
    ∙ over_came _ _ args.lo c.min-end.result c.loop-i.i (omega arith) (omega arith) c.loop-i-test.false
    ∙ over_cut _ false _ args.lo args.hi c.min-end.ensures
