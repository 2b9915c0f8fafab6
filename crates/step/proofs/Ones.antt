-- A multiply of files of ones on a Dst of zeros, for the worked numbers: the numbers of its rows become 16, and no other changes. Assumes nothing.
use mathlib.Core.Path.{◌≡◌, refl, ap, ◌∙◌}
use Prim.Native.Nat.{ℕ, ◌+◌, ◌-◌, ◌*◌, ◌/◌, ◌%◌, ◌≤◌, ◌<◌}
use native.Mathlib.Omega.{arith}
use lib.Ieee.{is_nan, add, of_bits, mul, to_bits}
use lib.ListN.{replicate, length-replicate, get_or-replicate}
use Rattle.cells.specs.Layout.{cell, span}
use Rattle.cells.specs.Cells.{over_rows}
use Rattle.cells.specs.Places.{get_at, over_at}
use Rattle.cells.specs.declared.Width.TheVariants.{Bits32}
use Rattle.cells.specs.declared.layout.File.TheVariants.{A, B}
use Rattle.cells.proofs.Cells.{within_true}
use Rattle.cells.proofs.Places.{at_agree}
use Rattle.datum.specs.Part.{part_of}
use Rattle.product.specs.declared.Product.{Product}
use Rattle.product.specs.Stored.{pattern_of, stored_of}
use Rattle.product.specs.Product.{sum_from, sum_to, phase_slice, from_a, from_b, sum_at, new_at, multiplied}
use Rattle.product.proofs.Floats.{sum_same}

-- 1 is the datum with the exponent 127 and the mantissa 0
abbrev pub one : ℕ
one = 127 * 1024

-- 16, as binary32 has it
abbrev pub sixteen : ℕ
sixteen = 0x4180_0000

-- the high parts of both files in format 2, from their first rows on
abbrev pub of_ones : ℕ → ℕ → Product
of_ones dst rows = record { width = Bits32; format = 2; phase = 0; a = 0; b = 0; dst = dst; rows = rows }

stored : stored_of Bits32 0 (sum_to (λ k. phase_slice A 2 0 one) (λ k. phase_slice B 2 0 one) 16) ≡ sixteen
unfolding phase_slice sum_from stored_of pattern_of is_nan add of_bits mul to_bits part_of
stored = refl

module _ (dst rows n m : ℕ) (few : rows ≤ 8) (long : 256 ≤ n) where
  sums : (i j : ℕ) → i < 8 → j < 16
      → sum_at (of_ones dst rows) (replicate n one) (replicate n one) i j ≡ sum_to (λ k. phase_slice A 2 0 one) (λ k. phase_slice B 2 0 one) 16
  unfolding sum_at from_a from_b
  sums i j h l =
      sum_same _ _ _ _ _ 16
      (λ k g. ap (phase_slice A 2 0) (get_or-replicate n (cell (0 + k) j) one 0 (omega arith)))
      (λ k g. ap (phase_slice B 2 0) (get_or-replicate n (cell (0 + i) k) one 0 (omega arith)))

  pub multiplied_ones : multiplied (of_ones dst rows) (replicate n one) (replicate n one) (replicate m 0) ≡ over_rows (span dst rows) (λ p. sixteen) (replicate m 0)
  unfolding multiplied new_at get_at over_at
  multiplied_ones =
      at_agree Bits32 _ _ (new_at (of_ones dst rows) (replicate n one) (replicate n one) (replicate m 0)) (λ p. sixteen) (replicate m 0) (λ p h. refl)
      (λ p h r.
      let inside = within_true dst rows (p / 16) r in
      (λ t. stored_of Bits32 (get_or-replicate m p 0 0 (rw length-replicate at h) t) (sums (p / 16 - dst) (p % 16) (omega arith) (omega arith) t)) ∙ stored)
