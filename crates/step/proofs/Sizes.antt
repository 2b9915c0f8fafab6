-- A multiply which is not refused fits, and an instruction keeps the four lengths. Assumes nothing.
use mathlib.Core.Path.{◌≡◌, ◌∙◌}
use mathlib.Core.Bool.{true}
use mathlib.Core.List.{List}
use Prim.Native.Nat.{ℕ, ◌+◌, ◌*◌, ◌≤◌, ◌<◌}
use native.Mathlib.Omega.{arith}
use lib.Dec.{ltb}
use lib.ListN.{length}
use borrow.Author.Tests.{le-leb, ltb-true, ltb-false}
use Rattle.cells.specs.State.{State, with_src_a, with_src_b, with_dst, with_registers}
use Rattle.cells.specs.declared.Width.{Width}
use Rattle.cells.specs.declared.Width.TheVariants.{Bits32, Bits16}
use Rattle.cells.specs.Places.{row_count}
use Rattle.cells.specs.Parts.{number_in, part_at}
use Rattle.cells.proofs.Cells.{split, length_over}
use Rattle.cells.proofs.Sizes.{Sizes}
use Rattle.cells.proofs.Tests.{all_of}
use Rattle.word.specs.declared.Height.{Height}
use Rattle.word.specs.declared.Multiply.{Multiply}
use Rattle.word.specs.Operands.{multiply_of}
use Rattle.word.specs.declared.Operands.{Operands}
use Rattle.word.specs.declared.Operands.TheVariants as operands
use Rattle.control.specs.declared.Control.{Control}
use Rattle.control.specs.Record.{width_of}
use Rattle.control.specs.Range.{in_range}
use Rattle.control.proofs.Bounds.{shared_bounds}
use Rattle.product.specs.Product.{fit_tests, fits}
use Rattle.product.proofs.MultipliedDst.{length_multiplied}
use Rattle.rules.specs.Multiply.{height_rows, row_a, row_b, row_dst}
use Rattle.rules.proofs.Places.{row_a_inside, row_b_inside, row_dst_inside, rows_few}
use Rattle.cells.specs.Layout.{column_count, dst_rows, src_numbers, dst_numbers, bank_row, row_start}
use Rattle.step.specs.Multiply.{product_of}
use Rattle.step.specs.Shifts.{shift_a, shift_b}
use Rattle.step.specs.Scalar.{scalar}
use Rattle.step.specs.Effect.{effect_of}

-- a multiply whose first row is inside Dst lies in one part of it: it cannot cross from row 511 to row 512
in_one_part : (w : Width) (c : Control) (t : ℕ) (h : Height) (d : ℕ) → row_dst c t h d < row_count w
    → number_in (part_at w dst_numbers (row_start (row_dst c t h d))) dst_numbers (row_start (row_dst c t h d)) + row_start (height_rows h) ≤ dst_numbers
in_one_part Bits32 c t h d lt = omega (arith, row_dst_inside Bits32 c t h d lt)
in_one_part Bits16 c t h d lt =
    let first = row_start (row_dst c t h d) in
    split (ltb first dst_numbers)
    (λ e.
    let low : row_dst c t h d < dst_rows = omega (arith, ltb-true first dst_numbers e) in
    rw e (omega (arith, row_dst_inside Bits32 c t h d low)))
    (λ e. rw e (omega (arith, row_dst_inside Bits16 c t h d lt, ltb-false first dst_numbers e)))

-- so a multiply that is not refused fits
pub product_fits : (c : Control) (t : ℕ) (m : Multiply) → in_range c ≡ true → row_dst c t m.height m.dst < row_count (width_of c.settings)
    → fits (product_of c t m) src_numbers src_numbers dst_numbers ≡ true
unfolding fits product_of
product_fits c t m h lt =
    let b = shared_bounds c h in
    let ra = row_a_inside c t in
    let rb = row_b_inside c t in
    all_of (fit_tests (product_of c t m) src_numbers src_numbers dst_numbers) (
      le-leb (height_rows m.height) 8 (rows_few m.height),
      (
        le-leb ((bank_row c.a.matrix (row_a c t) + 16) * column_count) src_numbers (omega arith),
        (
          le-leb ((bank_row c.b.matrix (row_b c t) + 8) * column_count) src_numbers (omega arith),
          (le-leb _ dst_numbers (in_one_part (width_of c.settings) c t m.height m.dst lt), tt),
        ),
      ),
    )

-- ---- what is done to the lent numbers keeps the four lengths

module _ (s : State) (l : List ℕ) (z : Sizes s) where
  pub a_sized : length l ≡ length s.srca → Sizes (with_src_a s l)
  a_sized e = record { srca = e ∙ z.srca; srcb = z.srcb; dst = z.dst; registers = z.registers }

  pub b_sized : length l ≡ length s.srcb → Sizes (with_src_b s l)
  b_sized e = record { srca = z.srca; srcb = e ∙ z.srcb; dst = z.dst; registers = z.registers }

  pub dst_sized : length l ≡ length s.dst → Sizes (with_dst s l)
  dst_sized e = record { srca = z.srca; srcb = z.srcb; dst = e ∙ z.dst; registers = z.registers }

  pub registers_sized : length l ≡ length s.registers → Sizes (with_registers s l)
  registers_sized e = record { srca = z.srca; srcb = z.srcb; dst = z.dst; registers = e ∙ z.registers }

pub effect_sized : (c : Control) (t : ℕ) (f : Operands) (s : State) → Sizes s → Sizes (effect_of c t f s)
unfolding effect_of shift_a shift_b scalar
effect_sized c t (operands.Multiply w) s z = dst_sized s _ z (length_multiplied (product_of c t (multiply_of w)) s.srca s.srcb s.dst)
effect_sized c t (operands.Legacy w) s z = z
effect_sized c t (operands.SetCounters w) s z = z
effect_sized c t (operands.AddCounters w) s z = z
effect_sized c t (operands.ZeroSrc w) s z =
    record { srca = length_over _ _ s.srca ∙ z.srca; srcb = length_over _ _ s.srcb ∙ z.srcb; dst = z.dst; registers = z.registers }
effect_sized c t (operands.ShiftA w) s z = a_sized s _ z (length_over _ _ s.srca)
effect_sized c t (operands.ShiftB w) s z = b_sized s _ z (length_over _ _ s.srcb)
effect_sized c t operands.NoEffect s z = z
effect_sized c t (operands.Scalar w) s z = registers_sized s _ z (length_over _ _ s.registers)
