-- `step::shifts::shift_right` meets its contract. Assumes nothing.
use Rattle.step.proofs.Columns.{from_right}
use Rattle.cells.proofs.Cells.{split, length_over, over_between_none, turn, ahead}
use Rattle.cells.specs.Cells.{over, between}
use borrow.Author.Tests.{eqb-false}
use lib.ListN.{length, get_or}
use lib.Dec.{eqb}
use native.Mathlib.Omega.{arith}
use Prim.Native.Nat.{ℕ, ◌+◌, ◌%◌, ◌≤◌, ◌<◌, ◌-◌}
use mathlib.Core.List.{List}
use mathlib.Core.Bool.{cond}
use mathlib.Core.Path.{◌≡◌, sym, ap, ◌∙◌}
use Rattle.step.proofs.shifts.shift_right.Goals as goal

held-is : (gap held : ℕ) (l : List ℕ) (p : ℕ) → ((p % 16 ≡ 0 → ⊥) → held ≡ get_or l (p + gap - 1) 0) → cond (eqb (p % 16) 0) 0 held ≡ from_right gap l p
held-is gap held l p h =
    split (eqb (p % 16) 0) (λ e. rw e) (λ e. rw e (h (eqb-false (p % 16) 0 e)))

pub loop-p-init : goal.loop-p-init
loop-p-init c = (sym (over_between_none _ 0 _ _), omega arith, omega arith, λ h. absurd (h (omega arith)))

pub overflow_add-next : goal.overflow_add-next
overflow_add-next c = let e : length c.loop-p.file ≡ length c.args.file.now = ap length c.loop-p.invariant.0 ∙ length_over _ _ _ in omega arith

pub offset_bounds-file-p : goal.offset_bounds-file-p
offset_bounds-file-p c = let e : length c.loop-p.file ≡ length c.args.file.now = ap length c.loop-p.invariant.0 ∙ length_over _ _ _ in omega arith

pub bounds-file-p : goal.bounds-file-p
bounds-file-p c = let e : length c.loop-p.file ≡ length c.args.file.now = ap length c.loop-p.invariant.0 ∙ length_over _ _ _ in omega arith

pub offset_bounds-file-p-in-loop-p : goal.offset_bounds-file-p-in-loop-p
offset_bounds-file-p-in-loop-p c = let e : length c.loop-p.file ≡ length c.args.file.now = ap length c.loop-p.invariant.0 ∙ length_over _ _ _ in omega arith

pub bounds-file-p-in-loop-p : goal.bounds-file-p-in-loop-p
bounds-file-p-in-loop-p c = let e : length c.loop-p.file ≡ length c.args.file.now = ap length c.loop-p.invariant.0 ∙ length_over _ _ _ in omega arith

pub loop-p-preserved : goal.loop-p-preserved
loop-p-preserved c = let l = c.loop-p in
    let a = c.args in
    let f = from_right a.gap a.file.now in
    let e : length l.file ≡ length a.file.now = ap length l.invariant.0 ∙ length_over _ _ _ in
    let lo : a.lo ≤ l.p = omega arith in
    let inside : l.p < length a.file.now = omega arith in (
      turn 0 f a.file.now l.file a.lo l.p _ lo inside l.invariant.0 (c.unless_first.ensures ∙ held-is a.gap l.held a.file.now l.p l.invariant.3),
      omega arith,
      omega arith,
      λ h.
          ahead 0 f a.file.now l.file a.lo l.p (l.p + a.gap) (omega arith) l.invariant.0
          ∙ ap (λ (q : ℕ). get_or a.file.now q 0) (omega arith),
    )

pub shape_of-file : goal.shape_of-file
shape_of-file c = ap length c.loop-p.invariant.0 ∙ length_over _ _ _

pub returns : goal.returns
returns c = let e : c.loop-p.p ≡ c.args.hi = omega arith in c.loop-p.invariant.0 ∙ ap (λ (k : ℕ). over (between c.args.lo k) (from_right c.args.gap c.args.file.now) c.args.file.now) e
