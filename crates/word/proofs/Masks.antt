-- "An unnamed bit is 1" and which is the lowest, bit by bit, and by a mask. Assumes nothing.
use mathlib.Core.Path.{◌≡◌, refl, sym, ap, ◌∙◌}
use mathlib.Core.Bool.{Bool, true, false, cond, ◌&&◌, ◌||◌, not}
use Prim.Native.Nat.{ℕ, zero, suc, min, ◌+◌, ◌-◌, ◌*◌, ◌/◌, ◌%◌, ◌^◌, ◌<◌}
use native.Mathlib.Nat.{div-one, div-div-eq-div-mul, pow-succ', two-pow-succ}
use native.Mathlib.Omega.{arith}
use lib.Bits.{bit_and, and_step, and_le_l}
use lib.Count.{under, count_trailing_zeros}
use lib.Dec.{eqb}
use borrow.Author.Tests.{eqb-true, eqb-false, eq-eqb, ne_eqb}
use Rattle.cells.proofs.Cells.{split}
use Rattle.word.specs.Bits.{bit, some_below, lowest_below}
use Rattle.word.proofs.Lowest.{some_up, some_same, lowest_same}

bit_up : (x i : ℕ) → bit x (suc i) ≡ bit (x / 2) i
bit_up x i = ap (λ (y : ℕ). eqb (y % 2) 1) (ap (λ (d : ℕ). x / d) (pow-succ' 2 i) ∙ sym (div-div-eq-div-mul x 2 (2 ^ i)))

-- p and a low bit are q and a low bit
halves : (p q a b : ℕ) → a < 2 → b < 2 → eqb (p * 2 + a) (q * 2 + b) ≡ (eqb p q && eqb a b)
halves p q a b la lb =
    split (eqb p q)
    (λ t. split (eqb a b)
    (λ u. rw (t, u) (eq-eqb (p * 2 + a) (q * 2 + b) (omega (arith, eqb-true p q t, eqb-true a b u))))
    (λ u. rw (t, u) (ne_eqb (p * 2 + a) (q * 2 + b) (λ e. eqb-false a b u (omega (arith, eqb-true p q t))))))
    (λ t. rw t (ne_eqb (p * 2 + a) (q * 2 + b) (λ e. eqb-false p q t (omega arith))))

low : (a b : ℕ) → a < 2 → b < 2 → eqb (min a b) a ≡ not (eqb a 1 && not (eqb b 1))
low zero zero la lb = refl
low zero (suc zero) la lb = refl
low zero (suc (suc b)) la lb = absurd (omega arith)
low (suc zero) zero la lb = refl
low (suc zero) (suc zero) la lb = refl
low (suc zero) (suc (suc b)) la lb = absurd (omega arith)
low (suc (suc a)) b la lb = absurd (omega arith)

and_not : (a b : Bool) → (not a && not b) ≡ not (b || a)
and_not true true = refl
and_not true false = refl
and_not false true = refl
and_not false false = refl

-- a mask leaves a number of n bits as it is just where no bit is 1 that the mask lacks
pub mask_bits : (n x m : ℕ) → x < 2 ^ n → eqb (bit_and x m) x ≡ not (some_below (λ i. bit x i && not (bit m i)) n)
mask_bits zero x m h = let e : x ≡ 0 = omega arith in rw e
mask_bits (suc n) x m h =
    let half : x / 2 < 2 ^ n = omega (arith, two-pow-succ n) in
    let f : ℕ → Bool = λ i. bit x i && not (bit m i) in
    let parts : eqb (bit_and x m) x ≡ (eqb (bit_and (x / 2) (m / 2)) (x / 2) && eqb (min (x % 2) (m % 2)) (x % 2)) =
    (λ i. eqb (and_step x m i) (whole i)) ∙ halves (bit_and (x / 2) (m / 2)) (x / 2) (min (x % 2) (m % 2)) (x % 2) (omega arith) (omega arith) in
    let ups : some_below (λ i. bit (x / 2) i && not (bit (m / 2) i)) n ≡ some_below (λ i. f (suc i)) n =
    some_same _ _ n (λ i l. λ j. sym (bit_up x i) j && not (sym (bit_up m i) j)) in
    let first : eqb (min (x % 2) (m % 2)) (x % 2) ≡ not (f 0) =
    low (x % 2) (m % 2) (omega arith) (omega arith) ∙ (λ j. not (eqb (sym (div-one x) j % 2) 1 && not (eqb (sym (div-one m) j % 2) 1))) in
    parts
    ∙ (λ j. (mask_bits n (x / 2) (m / 2) half ∙ ap not ups) j && first j)
    ∙ and_not (some_below (λ i. f (suc i)) n) (f 0)
    ∙ ap not (sym (some_up f n))
  where
    whole : x ≡ x / 2 * 2 + x % 2
    whole = omega arith

-- the lowest bit that a mask takes away is the lowest that is 1 and that the mask lacks
pub mask_lowest : (n x m : ℕ) → count_trailing_zeros n (x - bit_and x m) ≡ lowest_below (λ i. bit x i && not (bit m i)) n
unfolding count_trailing_zeros
mask_lowest zero x m = refl
mask_lowest (suc n) x m =
    let f : ℕ → Bool = λ i. bit x i && not (bit m i) in
    let ups : lowest_below (λ i. bit (x / 2) i && not (bit (m / 2) i)) n ≡ lowest_below (λ i. f (suc i)) n =
    lowest_same _ _ n (λ i l. λ j. sym (bit_up x i) j && not (sym (bit_up m i) j)) in
    (λ j. under (odd j) (count_trailing_zeros n (half j)))
    ∙ first (x % 2) (m % 2) (count_trailing_zeros n (x / 2 - bit_and (x / 2) (m / 2))) (omega arith) (omega arith)
    ∙ (λ j. cond (eqb (sym (div-one x) j % 2) 1 && not (eqb (sym (div-one m) j % 2) 1)) 0 (suc ((mask_lowest n (x / 2) (m / 2) ∙ ups) j)))
  where
    odd : (x - bit_and x m) % 2 ≡ x % 2 - min (x % 2) (m % 2)
    odd = omega (arith, and_step x m, and_le_l (x / 2) (m / 2))

    half : (x - bit_and x m) / 2 ≡ x / 2 - bit_and (x / 2) (m / 2)
    half = omega (arith, and_step x m, and_le_l (x / 2) (m / 2))

    first : (a b t : ℕ) → a < 2 → b < 2 → under (a - min a b) t ≡ cond (eqb a 1 && not (eqb b 1)) 0 (suc t)
    first zero zero t la lb = refl
    first zero (suc zero) t la lb = refl
    first zero (suc (suc b)) t la lb = absurd (omega arith)
    first (suc zero) zero t la lb = refl
    first (suc zero) (suc zero) t la lb = refl
    first (suc zero) (suc (suc b)) t la lb = absurd (omega arith)
    first (suc (suc a)) b t la lb = absurd (omega arith)
