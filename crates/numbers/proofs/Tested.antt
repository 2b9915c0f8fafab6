-- A value that a test gives, or none. Assumes nothing.
use mathlib.Core.Path.{◌≡◌, refl, sym, ap, ◌∙◌}
use mathlib.Core.Bool.{Bool, true, false, cond, true≢false}
use Rattle.std.proofs.Common.{Option, Some, None}

module _ {A : Type 0} where
  abbrev pub tested : A → Bool → Option A
  tested t s = cond s (Some t) None

  pub gives : {x t : A} {b s : Bool} → x ≡ t → b ≡ s → b ≡ true → Some x ≡ tested t s
  gives {t = t} e f g = ap Some e ∙ ap (tested t) (sym g ∙ f)

  pub gives_none : (t : A) {b s : Bool} → b ≡ s → b ≡ false → None ≡ tested t s
  gives_none t f g = ap (tested t) (sym g ∙ f)

  -- and back: of what was given
  pub given : (t : A) {x : A} (s : Bool) → Some x ≡ tested t s → (s ≡ true) × (x ≡ t)
  given t true e = (refl, cc)
  given t false e = absurd (apart e)
    where
      apart : {x : A} → ◌≡◌ {A = Option A} (Some x) None → ⊥
      apart e = let z : true ≡ false = cc in true≢false z

  pub given_none : (t : A) (s : Bool) → None ≡ tested t s → s ≡ false
  given_none t true e = cc
  given_none t false e = refl
