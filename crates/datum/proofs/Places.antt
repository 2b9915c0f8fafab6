-- The sign and the exponent of a number at their places, bits 18:10. Assumes nothing.
use mathlib.Core.Path.{◌≡◌, refl, sym, ap, ◌∙◌}
use Prim.Native.Nat.{ℕ, ◌+◌, ◌*◌, ◌/◌, ◌%◌, ◌^◌, ◌≤◌, ◌<◌}
use native.Mathlib.Omega.{arith}
use mathlib.Core.Bool.{Bool, true, false, cond}
use borrow.Author.Tests.{le-leb, lt-leb, leb-true, leb-false, eq-eqb, ne_eqb, eqb-true, eqb-false}
use lib.Dec.{eqb, leb}
use Rattle.cells.specs.declared.layout.File.{File}
use Rattle.datum.specs.declared.finite.Patterns.{Patterns}
use Rattle.datum.specs.Read.{sign_of, exponent_of, mantissa_of, number_of, patterns_of}

-- two tests that hold together
pub leb_same : (a b c d : ℕ) → (a ≤ b → c ≤ d) → (b < a → d < c) → leb a b ≡ leb c d
leb_same a b c d h k = go (leb a b) refl
  where
    go : (t : Bool) → leb a b ≡ t → leb a b ≡ leb c d
    go true t = t ∙ sym (le-leb c d (h (leb-true a b t)))
    go false t = t ∙ sym (lt-leb c d (k (leb-false a b t)))

-- the sign is the highest of bits 18:10
pub sign_at : (h : ℕ) → h < 524288 → leb 256 (h / 1024) ≡ sign_of h
sign_at h l = go (leb 256 (h / 1024)) refl
  where
    go : (b : Bool) → leb 256 (h / 1024) ≡ b → leb 256 (h / 1024) ≡ sign_of h
    go true t = t ∙ sym (eq-eqb (h / 2 ^ 18 % 2) 1 (omega (arith, leb-true 256 (h / 1024) t)))
    go false t = t ∙ sym (ne_eqb (h / 2 ^ 18 % 2) 1 (λ e. omega (arith, leb-false 256 (h / 1024) t)))

-- every sign, exponent and mantissa are some number's
pub number_fields : (s : Bool) (e m : ℕ) → e < 256 → m < 1024 → (sign_of (number_of s e m) ≡ s) × (exponent_of (number_of s e m) ≡ e) × (number_of s e m % 2 ^ 10 ≡ m)
number_fields true e m h k = (eq-eqb (number_of true e m / 2 ^ 18 % 2) 1 (omega arith), omega arith, omega arith)
number_fields false e m h k = (ne_eqb (number_of false e m / 2 ^ 18 % 2) 1 (λ z. omega arith), omega arith, omega arith)

-- and every number has some
pub fields_number : (x : ℕ) → x % 524288 ≡ number_of (sign_of x) (exponent_of x) (x % 2 ^ 10)
fields_number x = go (eqb (x / 2 ^ 18 % 2) 1) refl
  where
    go : (b : Bool) → eqb (x / 2 ^ 18 % 2) 1 ≡ b → x % 524288 ≡ number_of b (exponent_of x) (x % 2 ^ 10)
    go true t = omega (arith, eqb-true (x / 2 ^ 18 % 2) 1 t)
    go false t = let n = eqb-false (x / 2 ^ 18 % 2) 1 t in omega arith

-- the mantissa goes by the low ten bits
pub mantissa_same : (format x m : ℕ) → x % 2 ^ 10 ≡ m → mantissa_of format x ≡ mantissa_of format m
mantissa_same format x m is =
    let same : x % 2 ^ 10 ≡ m % 2 ^ 10 = omega (arith, is) in
    ap (λ (z : ℕ). cond (eqb format 2) (z / 8 * 8) z) same

-- patterns that are right for every sign, exponent and mantissa are so for the number's own
pub own_fields : (p : Patterns) (f : File) (format x : ℕ)
    → ((s : Bool) (e m : ℕ) → 0 < e → e < 255 → m < 1024 → x % 524288 ≡ number_of s e m → p ≡ patterns_of f s e (mantissa_of format m))
    → 0 < exponent_of x → exponent_of x < 255 → p ≡ patterns_of f (sign_of x) (exponent_of x) (mantissa_of format x)
own_fields p f format x right e0 e1 =
    right (sign_of x) (exponent_of x) (x % 2 ^ 10) e0 e1 (omega arith) (fields_number x)
    ∙ ap (patterns_of f (sign_of x) (exponent_of x)) (sym (mantissa_same format x (x % 2 ^ 10) refl))

pub exponent_at : (h : ℕ) → h % 262144 ≡ h / 1024 % 256 * 1024 + h % 1024
exponent_at h = omega arith

-- an exponent that is neither 0 nor 255, by its place
pub finite_exponent : (x e : ℕ) → e ≡ exponent_of x * 1024 → (e ≡ 0 → ⊥) → (e ≡ 255 * 1024 → ⊥) → (0 < exponent_of x) × (exponent_of x < 255)
finite_exponent x e is h k = (omega arith, omega arith)
