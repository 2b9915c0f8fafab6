-- Under a record in range, for one of the three threads and on files of the right sizes, an instruction that breaks no rule works on rows inside its
-- files. Assumes nothing.
use Rattle.std.specs.Prelude.{Ok}
use mathlib.Core.Path.{◌≡◌, refl, ap}
use mathlib.Core.Bool.{Bool, true, false, cond}
use Prim.Native.Nat.{ℕ, ◌+◌}
use native.Mathlib.Omega.{arith}
use lib.ListN.{length}
use borrow.Author.Tests.{le-leb, leb-false}
use Rattle.cells.specs.Layout.{column_count, row_start}
use Rattle.cells.specs.Places.{row_count}
use Rattle.cells.specs.State.{State}
use Rattle.cells.proofs.Sizes.{Sizes}
use Rattle.word.specs.Operands.{multiply_of, shift_b_of}
use Rattle.word.specs.declared.Operands.{Operands}
use Rattle.word.specs.declared.Operands.TheVariants as operands
use Rattle.control.specs.declared.Control.{Control}
use Rattle.control.specs.Record.{width_of}
use Rattle.control.specs.Range.{in_range}
use Rattle.control.proofs.Bounds.{shared_bounds}
use Rattle.rules.specs.Multiply.{row_dst}
use Rattle.rules.specs.Shifts.{shifted_a, shifted_b}
use Rattle.rules.specs.Rules.{row_wrong, operand_rules, lowest}
use Rattle.rules.proofs.Places.{shifted_b_inside}
use Rattle.rules.proofs.Reading.{row_right}
use Rattle.step.specs.Effect.{effect_of}
use Rattle.step.specs.Inside.{inside_a, inside_b, inside, acted}
use Rattle.step.proofs.Sizes.{product_fits}

module _ (c : Control) (t : ℕ) (s : State) (range : in_range c ≡ true) (z : Sizes s) where
  all_inside : (f : Operands) → row_wrong c t f ≡ false → inside c t f s ≡ true
  unfolding inside inside_a inside_b shifted_a
  all_inside (operands.Multiply w) h =
      let m = multiply_of w in
      rw (z.srca, z.srcb, z.dst) (product_fits c t m range (leb-false (row_count (width_of c.settings)) (row_dst c t m.height m.dst) h))
  all_inside (operands.Legacy w) h = refl
  all_inside (operands.SetCounters w) h = refl
  all_inside (operands.AddCounters w) h = refl
  all_inside (operands.ZeroSrc w) h = refl
  all_inside (operands.ShiftA w) h = let b = shared_bounds c range in le-leb (row_start (shifted_a c).first + row_start (shifted_a c).count + row_start c.last) (length s.srca) (omega (arith, z.srca, b.a_matrix, b.last))
  all_inside (operands.ShiftB w) h = le-leb (row_start (shifted_b c t (shift_b_of w)) + column_count) (length s.srcb) (omega (arith, z.srcb, shifted_b_inside c t (shift_b_of w) range))
  all_inside operands.NoEffect h = refl
  all_inside (operands.Scalar w) h = refl

  -- so it has its whole effect
  pub acts_whole : (f : Operands) → lowest (operand_rules c t f) ≡ Ok tt → acted c t f s ≡ effect_of c t f s
  unfolding acted
  acts_whole f d = ap (λ (b : Bool). cond b (effect_of c t f s) s) (all_inside f (row_right c t f d))
