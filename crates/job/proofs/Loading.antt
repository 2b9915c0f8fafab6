-- Rows loaded stretch by stretch: the numbers that stand inside the payload, the one at its end, and those past it. Assumes nothing.
use mathlib.Core.Path.{◌≡◌, sym, ap, ◌∙◌}
use mathlib.Core.List.{List}
use Prim.Native.Nat.{ℕ, ◌+◌, ◌-◌, ◌*◌, ◌<◌}
use native.Mathlib.Omega.{arith}
use lib.ListN.{length}
use Rattle.cells.specs.declared.Width.{Width}
use Rattle.cells.specs.Cells.{between}
use Rattle.cells.specs.Places.{over_at}
use Rattle.cells.specs.Layout.{span}
use Rattle.cells.proofs.Places.{rows_at, at_join}
use Rattle.job.specs.Kinds.{row_value}
use Rattle.job.specs.Loading.{value_from, loaded}
use Rattle.job.proofs.Numbers.{past}

module _ (w : Width) (p : List ℕ) (first count : ℕ) (d₀ : List ℕ) where
  -- all numbers stand inside
  pub loaded_inside : (d : List ℕ) → d ≡ over_at w (between (first * 16) (first * 16 + count * 16)) (value_from p (first * 16)) d₀ → d ≡ loaded w p (span first count) d₀
  unfolding loaded
  loaded_inside d e = e ∙ rows_at w first count (value_from p (first * 16)) d₀

  -- only `whole` of them do
  pub loaded_past : (whole last : ℕ) (d e f : List ℕ) → length p < 3 + 4 * (whole + 1) → whole < count * 16 → last ≡ row_value p whole
      → d ≡ over_at w (between (first * 16) (first * 16 + whole)) (value_from p (first * 16)) d₀
      → e ≡ over_at w (between (first * 16 + whole) (first * 16 + whole + 1)) (λ i. last) d
      → f ≡ over_at w (between (first * 16 + whole + 1) (first * 16 + count * 16)) (λ i. 0) e
      → f ≡ loaded w p (span first count) d₀
  loaded_past whole last d e f short most is inside end zeros =
      let lo = first * 16 in
      loaded_inside f
      (zeros
      ∙ at_join w (value_from p lo) (λ i. 0) d₀ e lo (lo + whole + 1) (lo + count * 16) (omega arith) (omega arith)
      (end ∙ at_join w (value_from p lo) (λ i. last) d₀ d lo (lo + whole) (lo + whole + 1) (omega arith) (omega arith) inside
      (λ i l h. let k : whole ≡ i - lo = omega arith in is ∙ ap (row_value p) k))
      (λ i l h. sym (past p (3 + 4 * (i - lo)) (omega arith))))
