-- An instruction under any record, on lent files of any lengths: a multiply and the shifts do nothing where a row of theirs stands outside its file,
-- ZEROSRC fills what is inside, and a scalar instruction reads 0 past the end and passes over a result there. In a job and in a single step that is not refused no row or register
-- stands outside (proofs/Reach.antt). Definitions only.
use Rattle.std.specs.Prelude.{Bool, true, cond, ℕ, ◌+◌, leb, length}
use Rattle.cells.specs.Layout.{column_count, row_start}
use Rattle.cells.specs.State.{State}
use Rattle.word.specs.Operands.{multiply_of, shift_b_of}
use Rattle.word.specs.declared.ShiftB.{ShiftB}
use Rattle.word.specs.declared.Operands.{Operands}
use Rattle.word.specs.declared.Operands.TheVariants as operands
use Rattle.control.specs.declared.Control.{Control}
use Rattle.product.specs.Product.{fits}
use Rattle.rules.specs.Shifts.{shifted_a, shifted_b}
use Rattle.step.specs.Multiply.{product_of}
use Rattle.step.specs.Effect.{effect_of}

-- SHIFTXA's rows 0..15 and the rows last..last+15, in a file of n numbers
unfoldable pub inside_a : Control → ℕ → Bool
inside_a c n = leb (row_start (shifted_a c).first + row_start (shifted_a c).count + row_start c.last) n

-- SHIFTXB's row
unfoldable pub inside_b : Control → ℕ → ShiftB → ℕ → Bool
inside_b c t x n = leb (row_start (shifted_b c t x) + column_count) n

unfoldable pub inside : Control → ℕ → Operands → State → Bool
inside c t (operands.Multiply w) s = fits (product_of c t (multiply_of w)) (length s.srca) (length s.srcb) (length s.dst)
inside c t (operands.Legacy w) s = true
inside c t (operands.SetCounters w) s = true
inside c t (operands.AddCounters w) s = true
inside c t (operands.ZeroSrc w) s = true
inside c t (operands.ShiftA w) s = inside_a c (length s.srca)
inside c t (operands.ShiftB w) s = inside_b c t (shift_b_of w) (length s.srcb)
inside c t (operands.Scalar w) s = true
inside c t operands.NoEffect s = true

unfoldable pub acted : Control → ℕ → Operands → State → State
acted c t f s = cond (inside c t f s) (effect_of c t f s) s
