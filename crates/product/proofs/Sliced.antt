-- The slices of a file, number by number. Assumes nothing.
use mathlib.Core.Path.{◌≡◌, sym, ◌∙◌, subst}
use mathlib.Core.Logic.{◌≢◌}
use mathlib.Core.Bool.{Bool, true, ◌&&◌}
use mathlib.Core.List.{List}
use Prim.Native.Nat.{ℕ, ◌+◌, ◌*◌, ◌<◌}
use native.Mathlib.Omega.{arith}
use lib.ListN.{length, get_or, set}
use Rattle.std.proofs.Common.{below_more}
use Rattle.std.proofs.lemmas.List.{get_or-set_other, get_or-set_same}
use lib.Seq.{ext_get_or}
use lib.Ieee.{Float, nan}
use Rattle.cells.specs.declared.layout.File.{File}
use Rattle.cells.proofs.Cells.{both, length_over, over_in, between_in}
use Rattle.product.specs.Product.{phase_slice}
use Rattle.product.specs.Sums.{slices_of}

module _ (file : File) (format phase : ℕ) (src : List ℕ) (first : ℕ) where
  -- the slice of place p
  abbrev pub number : ℕ → Float
  number p = phase_slice file format phase (get_or src (first * 16 + p) 0)

  pub slice_at : (out : List Float) (p : ℕ) → p < length out → get_or (slices_of file format phase src first out) p nan ≡ number p
  unfolding slices_of
  slice_at out p h = over_in _ _ out p nan (between_in 0 (length out) p (omega arith) h) h

  pub slices_length : (out : List Float) → length (slices_of file format phase src first out) ≡ length out
  unfolding slices_of
  slices_length out = length_over _ _ out

  -- all places are overwritten: what stood there does not matter
  pub anew : (l out : List Float) → length l ≡ length out → slices_of file format phase src first l ≡ slices_of file format phase src first out
  anew l out e =
      ext_get_or nan _ _ (slices_length l ∙ e ∙ sym (slices_length out))
      (λ p h.
      let b : p < length l = rw slices_length at h in
      slice_at l p b ∙ sym (slice_at out p (omega arith)))

  -- a list of these slices
  pub made : (l out : List Float) → length l ≡ length out → ((p : ℕ) → p < length l → get_or l p nan ≡ number p) → l ≡ slices_of file format phase src first out
  made l out e h = ext_get_or nan _ _ (e ∙ sym (slices_length out)) (λ p b. h p b ∙ sym (slice_at out p (omega arith)))

-- ---- a loop that makes a slice of each number, and a test of it

-- before place n each slice and its test are as P says, and where `all` holds each test does
abbrev pub Each : (ℕ → Float → Bool → Type 0) → List Float → Bool → ℕ → Type 0
Each P out all n = (k : ℕ) → k < n → (known : Bool) × P k (get_or out k nan) known × (all ≡ true → known ≡ true)

pub each_more : (P : ℕ → Float → Bool → Type 0) (out : List Float) (all : Bool) (i : ℕ) (y : Float) (b : Bool) → Each P out all i → i < length out → P i y b
    → Each P (set out i y) (all && b) (i + 1)
each_more P out all i y b e l new =
    below_more (λ k. (known : Bool) × P k (get_or (set out i y) k nan) known × ((all && b) ≡ true → known ≡ true)) i
    (λ k h.
    let o = e k h in
    let ne : k ≢ i = omega arith in
    (o.0, subst (λ (z : Float). P k z o.0) (sym (get_or-set_other out i k y nan ne)) o.1, λ t. o.2 (both all b t).0))
    (b, subst (λ (z : Float). P i z b) (sym (get_or-set_same out i y nan l)) new, λ t. (both all b t).1)
