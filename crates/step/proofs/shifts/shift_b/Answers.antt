-- `step::shifts::shift_b` meets its contract. Assumes nothing.
use Rattle.step.proofs.Columns.{found_b, inside_b_lem, outside_b, rotated}
use Rattle.step.specs.Shifts.{shift_b}
use Rattle.rules.specs.Shifts.{shifted_b}
use Rattle.control.specs.Halves.{joined}
use Rattle.cells.specs.Layout.{cell}
use lib.ListN.{get_or}
use native.Mathlib.Omega.{arith}
use Prim.Native.Nat.{ℕ}
use mathlib.Core.Bool.{Bool, cond}
use mathlib.Core.Path.{◌≡◌, sym, ap, ◌∙◌}
use Rattle.step.proofs.shifts.shift_b.Goals as goal

pub returns-then-srcb-hi : goal.returns-then-srcb-hi
returns-then-srcb-hi c = λ s. let a = c.args in
    let w = found_b (shifted_b (joined a.k s) a.thread a.f) (c.shifted_b.ensures s) c.row_start-lo.ensures in
    sym (ap (λ (b : Bool). cond b (shift_b (joined a.k s) a.thread a.f a.srcb.now) a.srcb.now) (outside_b (joined a.k s) a.thread a.f w c.if-srcb-hi.true))

pub shift_left-requires : goal.shift_left-requires
shift_left-requires c = let e = c.row_start-lo.ensures in (omega arith, omega arith, omega (arith, c.if-srcb-hi.false))

pub bounds-srcb-lo : goal.bounds-srcb-lo
bounds-srcb-lo c = omega (arith, c.if-srcb-hi.false)

pub shift_left-requires-else-f : goal.shift_left-requires-else-f
shift_left-requires-else-f c = let e = c.row_start-lo.ensures in (omega arith, omega arith, omega (arith, c.if-srcb-hi.false))

pub returns-then-f : goal.returns-then-f
returns-then-f c = λ s. let a = c.args in
    let c' = joined a.k s in
    let w = found_b (shifted_b c' a.thread a.f) (c.shifted_b.ensures s) c.row_start-lo.ensures in
    c.shift_left.ensures ∙ rotated c' a.thread a.f a.srcb.now w 0 (sym (simp c.if-f.true))
    ∙ sym (ap (λ (b : Bool). cond b (shift_b c' a.thread a.f a.srcb.now) a.srcb.now) (inside_b_lem c' a.thread a.f w c.if-srcb-hi.false))

pub returns-else-f : goal.returns-else-f
returns-else-f c = λ s. let a = c.args in
    let c' = joined a.k s in
    let l = a.srcb.now in
    let w = found_b (shifted_b c' a.thread a.f) (c.shifted_b.ensures s) c.row_start-lo.ensures in
    let is : get_or l c.row_start-lo.result 0 ≡ get_or l (cell (shifted_b c' a.thread a.f) 0) 0 = ap (λ (q : ℕ). get_or l q 0) (omega (arith, w.first)) in
    c.shift_left-else-f.ensures ∙ rotated c' a.thread a.f l w _ (is ∙ sym (simp c.if-f.false))
    ∙ sym (ap (λ (b : Bool). cond b (shift_b c' a.thread a.f l) l) (inside_b_lem c' a.thread a.f w c.if-srcb-hi.false))
