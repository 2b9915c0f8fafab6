-- SHIFTXA, SHIFTXB: document 01, "What each does", the numbers. Definitions only.
use Rattle.std.specs.Prelude.{cond, List, ℕ, ◌+◌, ◌-◌, ◌/◌, ◌%◌, eqb, get_or}
use Rattle.cells.specs.Layout.{column_count, cell, span}
use Rattle.cells.specs.Cells.{over_rows}
use Rattle.cells.specs.State.{State, with_src_a, with_src_b}
use Rattle.word.specs.declared.ShiftB.{ShiftB}
use Rattle.control.specs.declared.Control.{Control}
use Rattle.rules.specs.Shifts.{shifted_a, shifted_b}

-- ---- column j of row r, moved by one column

-- to the right: 0 at column 0
abbrev pub rightward : List ℕ → ℕ → ℕ → ℕ
rightward l r j = cond (eqb j 0) 0 (get_or l (cell r (j - 1)) 0)

-- to the left: `end` at column 15
abbrev pub leftward : ℕ → List ℕ → ℕ → ℕ → ℕ
leftward end l r j = cond (eqb j 15) end (get_or l (cell r (j + 1)) 0)

-- ---- SHIFTXA: mode 2 to the right, mode 3 to the left; the rows written are 0..15, the old rows read are last..last+15

unfoldable pub shift_a : Control → ℕ → List ℕ → List ℕ
shift_a c mode l =
    over_rows (shifted_a c)
    (λ p. cond (eqb mode 2) (rightward l (p / column_count + c.last) (p % column_count)) (leftward 0 l (p / column_count + c.last) (p % column_count)))
    l

abbrev pub shift_a_effect : Control → ℕ → State → State
shift_a_effect c mode s = with_src_a s (shift_a c mode s.srca)

-- ---- SHIFTXB: to the left; column 15 gets 0 or the old column 0

unfoldable pub shift_b : Control → ℕ → ShiftB → List ℕ → List ℕ
shift_b c t x l =
    over_rows (span (shifted_b c t x) 1)
    (λ p. leftward (cond x.zero 0 (get_or l (cell (shifted_b c t x) 0) 0)) l (p / column_count) (p % column_count))
    l

abbrev pub shift_b_effect : Control → ℕ → ShiftB → State → State
shift_b_effect c t x s = with_src_b s (shift_b c t x s.srcb)
