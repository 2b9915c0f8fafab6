-- The shifts place by place, as the loops make them, and row by row, as the definitions say them. Assumes nothing.
use mathlib.Core.Path.{◌≡◌, sym, ap, ◌∙◌}
use mathlib.Core.Bool.{true, false, cond}
use mathlib.Core.List.{List}
use Prim.Native.Nat.{ℕ, ◌+◌, ◌-◌, ◌/◌, ◌%◌, ◌≤◌, ◌<◌}
use native.Mathlib.Omega.{arith}
use lib.Dec.{eqb}
use lib.ListN.{get_or}
use borrow.Author.Tests.{eqb-false, le-leb, lt-leb}
use Rattle.cells.specs.declared.layout.Span.{Span}
use Rattle.cells.specs.Layout.{column_count, row_start, cell, span}
use Rattle.cells.specs.Cells.{over, between, over_rows}
use Rattle.cells.proofs.Cells.{split, over_values, rows_between}
use Rattle.word.specs.declared.ShiftB.{ShiftB}
use Rattle.control.specs.declared.Control.{Control}
use Rattle.rules.specs.Shifts.{shifted_a, shifted_b}
use Rattle.step.specs.Shifts.{rightward, leftward, shift_a, shift_b}
use Rattle.step.specs.Inside.{inside_a, inside_b}

-- ---- what place p becomes

abbrev pub from_left : ℕ → ℕ → List ℕ → ℕ → ℕ
from_left gap end l p = cond (eqb (p % column_count) 15) end (get_or l (p + gap + 1) 0)

abbrev pub from_right : ℕ → List ℕ → ℕ → ℕ
from_right gap l p = cond (eqb (p % column_count) 0) 0 (get_or l (p + gap - 1) 0)

-- ---- a column

right_is : (l : List ℕ) (last i : ℕ)
    → cond (eqb (i % column_count) 0) 0 (get_or l (i + row_start last - 1) 0) ≡ rightward l (i / column_count + last) (i % column_count)
right_is l last i =
    split (eqb (i % column_count) 0) (λ e. rw e)
    (λ e. let n = eqb-false (i % column_count) 0 e in rw e (ap (λ (q : ℕ). get_or l q 0) (omega arith)))

left_is : (l : List ℕ) (end last i : ℕ)
    → cond (eqb (i % column_count) 15) end (get_or l (i + row_start last + 1) 0) ≡ leftward end l (i / column_count + last) (i % column_count)
left_is l end last i = ap (λ (q : ℕ). cond (eqb (i % column_count) 15) end (get_or l q 0)) (omega arith)

-- ---- rows, by the places of their numbers, from lo on and before hi

pub record At (s : Span) (lo hi : ℕ) : Type 0 where
  pub first : lo ≡ row_start s.first
  pub end : hi ≡ lo + row_start s.count

at_rows : (s : Span) (l : List ℕ) {lo hi : ℕ} → At s lo hi → (f g : ℕ → ℕ) → ((i : ℕ) → f i ≡ g i) → over (between lo hi) f l ≡ over_rows s g l
at_rows s l p f g h = over_values _ f g l h ∙ rw (p.end, p.first) (rows_between s.first s.count g l)

-- ---- SHIFTXA, which reads `gap` places further on

pub record FoundA (c : Control) (lo hi gap : ℕ) : Type 0 where
  pub rows : At (shifted_a c) lo hi
  pub last : gap ≡ row_start c.last

pub found_a : (c : Control) {s : Span} {lo size gap : ℕ} → s ≡ shifted_a c → lo ≡ row_start s.first → size ≡ row_start s.count → gap ≡ row_start c.last
    → FoundA c lo (lo + size) gap
found_a c {lo = lo} e first count last =
    record { rows = record { first = rw e at first; end = ap (λ (n : ℕ). lo + n) (rw e at count) }; last = last }

-- the places of whole rows, one after the other
pub record RoomA (lo hi : ℕ) : Type 0 where
  pub first : lo % column_count ≡ 0
  pub end : hi % column_count ≡ 0
  pub order : lo ≤ hi

pub room_a : (c : Control) {lo hi gap : ℕ} → FoundA c lo hi gap → RoomA lo hi
unfolding shifted_a
room_a c w = record { first = omega (arith, w.rows.first); end = omega (arith, w.rows.first, w.rows.end); order = omega (arith, w.rows.end) }

-- whether they are inside a file of n numbers
module _ (c : Control) {lo hi gap n : ℕ} (w : FoundA c lo hi gap) where
  pub inside_a_lem : hi + gap ≤ n → inside_a c n ≡ true
  unfolding inside_a
  inside_a_lem h = le-leb (row_start (shifted_a c).first + row_start (shifted_a c).count + row_start c.last) n (omega (arith, h, w.rows.first, w.rows.end, w.last))

  pub outside_a : n < hi + gap → inside_a c n ≡ false
  unfolding inside_a
  outside_a h = lt-leb (row_start (shifted_a c).first + row_start (shifted_a c).count + row_start c.last) n (omega (arith, h, w.rows.first, w.rows.end, w.last))

module _ (c : Control) (mode : ℕ) (l : List ℕ) {lo hi gap : ℕ} (w : FoundA c lo hi gap) where
  pub shifted_right : eqb mode 2 ≡ true → over (between lo hi) (λ p. cond (eqb (p % column_count) 0) 0 (get_or l (p + gap - 1) 0)) l ≡ shift_a c mode l
  unfolding shift_a
  shifted_right e = at_rows (shifted_a c) l w.rows _ _ (λ i. rw w.last (right_is l c.last i ∙ sym (simp e)))

  pub shifted_left : eqb mode 2 ≡ false → over (between lo hi) (λ p. cond (eqb (p % column_count) 15) 0 (get_or l (p + gap + 1) 0)) l ≡ shift_a c mode l
  unfolding shift_a
  shifted_left e = at_rows (shifted_a c) l w.rows _ _ (λ i. rw w.last (left_is l 0 c.last i ∙ sym (simp e)))

-- ---- SHIFTXB

pub found_b : (r : ℕ) {x lo : ℕ} → x ≡ r → lo ≡ row_start x → At (span r 1) lo (lo + column_count)
found_b r e first = record { first = rw e at first; end = omega arith }

module _ (c : Control) (t : ℕ) (x : ShiftB) {lo hi n : ℕ} (w : At (span (shifted_b c t x) 1) lo hi) where
  pub inside_b_lem : hi ≤ n → inside_b c t x n ≡ true
  unfolding inside_b
  inside_b_lem h = le-leb (row_start (shifted_b c t x) + column_count) n (omega (arith, h, w.first, w.end))

  pub outside_b : n < hi → inside_b c t x n ≡ false
  unfolding inside_b
  outside_b h = lt-leb (row_start (shifted_b c t x) + column_count) n (omega (arith, h, w.first, w.end))

pub rotated : (c : Control) (t : ℕ) (x : ShiftB) (l : List ℕ) {lo hi : ℕ} → At (span (shifted_b c t x) 1) lo hi
    → (end : ℕ) → end ≡ cond x.zero 0 (get_or l (cell (shifted_b c t x) 0) 0)
    → over (between lo hi) (λ p. cond (eqb (p % column_count) 15) end (get_or l (p + 0 + 1) 0)) l ≡ shift_b c t x l
unfolding shift_b
rotated c t x l w end e =
    at_rows (span (shifted_b c t x) 1) l w _ _ (λ i. left_is l end 0 i ∙ (λ j. leftward (e j) l (same i j) (i % column_count)))
  where
    same : (i : ℕ) → i / column_count + 0 ≡ i / column_count
    same i = omega arith
