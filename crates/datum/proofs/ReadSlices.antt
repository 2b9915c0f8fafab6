-- A datum's slices by its number, and a finite datum's by its value. Assumes nothing.
use mathlib.Core.Path.{◌≡◌, refl, sym, ap, ◌∙◌, subst}
use mathlib.Core.Bool.{Bool, true, false, cond, ◌&&◌}
use Prim.Native.Nat.{ℕ, zero, suc, ◌+◌, ◌*◌, ◌^◌, ◌<◌}
use native.Mathlib.Nat.{add-mul, zero-mul, mul-pos}
use native.Mathlib.Omega.{arith}
use borrow.Author.Tests.{lt-ltb, ltb-true, ne_eqb}
use lib.Dec.{eqb, ltb}
use lib.IntN.{pos}
use lib.Ieee.{nan, inf, fin}
use lib.Ieee.Exact.{HasValue}
use lib.Pow.{pow_pos}
use Rattle.cells.specs.declared.layout.File.{File}
use Rattle.cells.specs.declared.layout.File.TheVariants.{A, B}
use Rattle.cells.proofs.Cells.{both}
use Rattle.datum.specs.declared.Slices.{Slices}
use Rattle.datum.specs.declared.Datum.TheVariants.{Zero, Infinity, NotANumber, Finite}
use Rattle.datum.specs.Part.{part_of}
use Rattle.datum.specs.Read.{sign_of, exponent_of, mantissa_of, high_of, low_of, split_of, kind_of, datum_of, datum_slices, in_each, slices_as, number_slices, is_ordinary, ordinary_of, ordinary_slices}
use Rattle.datum.specs.Value.{finite_value, kept_mantissa, IsUnits, MakeUp}
use Rattle.datum.proofs.Parts.{part_exact}

-- the kind that is found has the number's slices
pub kind_slices : (f : File) (s : Bool) (e m : ℕ) → datum_slices (kind_of f s e m) ≡ slices_as f s e m
kind_slices f s e m = go (eqb e 0) (eqb e 255) (eqb m 0)
  where
    go : (a b c : Bool)
        → datum_slices (cond a Zero (cond b (cond c (Infinity s) NotANumber) (Finite (split_of f s e m))))
        ≡ cond a (in_each (fin false 0 (pos 0))) (cond b (cond c (in_each (inf s)) (in_each nan)) (split_of f s e m))
    go true b c = refl
    go false true true = refl
    go false true false = refl
    go false false c = refl

pub ordinary_slices_lem : (f : File) (format x : ℕ) → datum_slices (ordinary_of f format x) ≡ ordinary_slices f format x
ordinary_slices_lem f format x = go (is_ordinary x)
  where
    go : (b : Bool) → datum_slices (cond b (datum_of f format x) Zero) ≡ cond b (number_slices f format x) (in_each (fin false 0 (pos 0)))
    go true = kind_slices f (sign_of x) (exponent_of x) (mantissa_of format x)
    go false = refl

-- ---- an ordinary number that is not zero, and any other

pub exponent_middle : (e : ℕ) → (ltb 10 e && ltb e 255) ≡ true → (10 < e) × (e < 255)
exponent_middle e h = let b = both (ltb 10 e) (ltb e 255) h in (ltb-true 10 e b.0, ltb-true e 255 b.1)

pub finite_ordinary : (f : File) (format x : ℕ) → (ltb 10 (exponent_of x) && ltb (exponent_of x) 255) ≡ true
    → ordinary_of f format x ≡ Finite (split_of f (sign_of x) (exponent_of x) (mantissa_of format x))
finite_ordinary f format x h =
    let r = exponent_middle (exponent_of x) h in
    simp (ne_eqb (exponent_of x) 0 (λ z. omega (arith, r.0, z)), ne_eqb (exponent_of x) 255 (λ z. omega (arith, r.1, z)), h)

pub other_ordinary : (f : File) (format x : ℕ) → (ltb 10 (exponent_of x) && ltb (exponent_of x) 255) ≡ false → ordinary_of f format x ≡ Zero
other_ordinary f format x h = go (eqb (exponent_of x) 0) refl
  where
    go : (b : Bool) → eqb (exponent_of x) 0 ≡ b → ordinary_of f format x ≡ Zero
    go true t = simp (t, h)
    go false t = simp (t, h)

-- where a number is ordinary, that is its datum
pub ordinary_datum : (f : File) (format x : ℕ) → is_ordinary x ≡ true → ordinary_of f format x ≡ datum_of f format x
ordinary_datum f format x h = simp h

-- ---- the value

factors : (f : File) (m : ℕ) → high_of f m + low_of f m ≡ 1024 + kept_mantissa f m
factors A m = omega arith
factors B m = omega arith

part_units : (s : Bool) (n e : ℕ) → IsUnits (part_of s n e) s (n * 2 ^ e)
part_units s n e = subst (λ (b : Bool). HasValue (part_of s n e) (s && b) (n * 2 ^ e) (2 ^ 137)) (positive n) (part_exact s n e)
  where
    positive : (n : ℕ) → ltb 0 n ≡ ltb 0 (n * 2 ^ e)
    positive zero = ap (ltb 0) (sym (zero-mul (2 ^ e)))
    positive (suc k) = lt-ltb 0 (suc k) (omega arith) ∙ sym (lt-ltb 0 (suc k * 2 ^ e) (mul-pos (omega arith) (pow_pos e)))

split_value : (f : File) (s : Bool) (e m : ℕ) → MakeUp (split_of f s e m) (finite_value s e (kept_mantissa f m))
split_value f s e m =
    record {
      high = high_of f m * 2 ^ e;
      low = low_of f m * 2 ^ e;
      is_high = part_units s (high_of f m) e;
      is_low = part_units s (low_of f m) e;
      sum = sym (add-mul (high_of f m) (low_of f m) (2 ^ e)) ∙ ap (λ (n : ℕ). n * 2 ^ e) (factors f m);
    }

-- high + low is the datum's value in SrcB; in SrcA it is the value without the mantissa's lowest bit
pub finite_value_lem : (f : File) (format x : ℕ) (p : Slices) → datum_of f format x ≡ Finite p
    → MakeUp p (finite_value (sign_of x) (exponent_of x) (kept_mantissa f (mantissa_of format x)))
finite_value_lem f format x p h = go (eqb (exponent_of x) 0) (eqb (exponent_of x) 255) (eqb (mantissa_of format x) 0) h
  where
    go : (a b c : Bool)
        → cond a Zero (cond b (cond c (Infinity (sign_of x)) NotANumber) (Finite (split_of f (sign_of x) (exponent_of x) (mantissa_of format x)))) ≡ Finite p
        → MakeUp p (finite_value (sign_of x) (exponent_of x) (kept_mantissa f (mantissa_of format x)))
    go true b c h = absurd (let z : ◌≡◌ {A = ℕ} 0 1 = cc in omega arith)
    go false true true h = absurd (let z : ◌≡◌ {A = ℕ} 0 1 = cc in omega arith)
    go false true false h = absurd (let z : ◌≡◌ {A = ℕ} 0 1 = cc in omega arith)
    go false false c h =
        let is : split_of f (sign_of x) (exponent_of x) (mantissa_of format x) ≡ p = cc in
        subst (λ (q : Slices). MakeUp q (finite_value (sign_of x) (exponent_of x) (kept_mantissa f (mantissa_of format x)))) is
        (split_value f (sign_of x) (exponent_of x) (mantissa_of format x))
