-- `step::shifts::shift_left` meets its contract. Assumes nothing.
use Rattle.step.proofs.Columns.{from_left}
use Rattle.cells.proofs.Cells.{length_over, over_between_none, turn, ahead}
use Rattle.cells.specs.Cells.{over, between}
use borrow.Author.Tests.{eq-eqb, ne_eqb}
use lib.ListN.{length, get_or}
use native.Mathlib.Omega.{arith}
use Prim.Native.Nat.{ℕ, ◌+◌, ◌%◌, ◌≤◌, ◌<◌}
use mathlib.Core.List.{List}
use mathlib.Core.Path.{◌≡◌, sym, ap, ◌∙◌}
use Rattle.step.proofs.shifts.shift_left.Goals as goal
use Rattle.step.proofs.shifts.shift_left.Goals.{then-p-eq15, else-p-eq15}

at_end : (gap end : ℕ) (l : List ℕ) (p : ℕ) → p % 16 ≡ 15 → from_left gap end l p ≡ end
at_end gap end l p h = simp (eq-eqb (p % 16) 15 h)

before-end : (gap end : ℕ) (l : List ℕ) (p : ℕ) → (p % 16 ≡ 15 → ⊥) → from_left gap end l p ≡ get_or l (p + gap + 1) 0
before-end gap end l p h = simp (ne_eqb (p % 16) 15 h)

pub loop-p-init : goal.loop-p-init
loop-p-init c = (sym (over_between_none _ 0 _ _), omega arith, omega arith)

pub offset_bounds-file-p : goal.offset_bounds-file-p
offset_bounds-file-p c = let e : length c.loop-p.file ≡ length c.args.file.now = ap length c.loop-p.invariant.0 ∙ length_over _ _ _ in omega arith

pub bounds-file-p : goal.bounds-file-p
bounds-file-p c = let e : length c.loop-p.file ≡ length c.args.file.now = ap length c.loop-p.invariant.0 ∙ length_over _ _ _ in omega arith

pub overflow_add-file : goal.overflow_add-file
overflow_add-file c = let e : length c.loop-p.file ≡ length c.args.file.now = ap length c.loop-p.invariant.0 ∙ length_over _ _ _ in omega arith

pub overflow_add-file-else-p-eq15 : goal.overflow_add-file-else-p-eq15
overflow_add-file-else-p-eq15 c = let e : length c.loop-p.file ≡ length c.args.file.now = ap length c.loop-p.invariant.0 ∙ length_over _ _ _ in omega arith

pub offset_bounds-file-p-else-p-eq15 : goal.offset_bounds-file-p-else-p-eq15
offset_bounds-file-p-else-p-eq15 c = let e : length c.loop-p.file ≡ length c.args.file.now = ap length c.loop-p.invariant.0 ∙ length_over _ _ _ in omega arith

pub bounds-file-p-else-p-eq15 : goal.bounds-file-p-else-p-eq15
bounds-file-p-else-p-eq15 c = let e : length c.loop-p.file ≡ length c.args.file.now = ap length c.loop-p.invariant.0 ∙ length_over _ _ _ in omega arith

pub offset_bounds-file-p-else-p-eq15-2 : goal.offset_bounds-file-p-else-p-eq15-2
offset_bounds-file-p-else-p-eq15-2 c = let e : length c.loop-p.file ≡ length c.args.file.now = ap length c.loop-p.invariant.0 ∙ length_over _ _ _ in omega arith

pub bounds-file-p-else-p-eq15-2 : goal.bounds-file-p-else-p-eq15-2
bounds-file-p-else-p-eq15-2 c = let e : length c.loop-p.file ≡ length c.args.file.now = ap length c.loop-p.invariant.0 ∙ length_over _ _ _ in omega arith

pub loop-p-preserved : goal.loop-p-preserved
loop-p-preserved c = let l = c.loop-p in
    let a = c.args in
    let f = from_left a.gap a.end a.file.now in
    let e : length l.file ≡ length a.file.now = ap length l.invariant.0 ∙ length_over _ _ _ in
    let lo : a.lo ≤ l.p = omega arith in
    let inside : l.p < length a.file.now = omega arith in
    elim c.if-p-eq15.branch [
      | then-p-eq15 w ↦ (w.file-is ∙ turn 0 f a.file.now l.file a.lo l.p a.end lo inside l.invariant.0 (sym (at_end a.gap a.end a.file.now l.p w.if-p-eq15.true)), omega arith, omega arith)
      | else-p-eq15 w ↦ (
        w.file-is ∙ turn 0 f a.file.now l.file a.lo l.p _ lo inside l.invariant.0
            (ahead 0 f a.file.now l.file a.lo l.p (l.p + a.gap + 1) (omega arith) l.invariant.0
            ∙ sym (before-end a.gap a.end a.file.now l.p w.if-p-eq15.false)),
        omega arith,
        omega arith,
      )
    ]

pub shape_of-file : goal.shape_of-file
shape_of-file c = ap length c.loop-p.invariant.0 ∙ length_over _ _ _

pub returns : goal.returns
returns c = let e : c.loop-p.p ≡ c.args.hi = omega arith in c.loop-p.invariant.0 ∙ ap (λ (k : ℕ). over (between c.args.lo k) (from_left c.args.gap c.args.end c.args.file.now) c.args.file.now) e
