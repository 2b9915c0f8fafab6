-- The lowest number below n at which a test passes. Assumes nothing.
use mathlib.Core.Path.{◌≡◌, refl, sym, ap, ◌∙◌}
use mathlib.Core.Bool.{Bool, true, false, cond, ◌||◌, or-true, false≢true}
use Prim.Native.Nat.{ℕ, zero, suc, ◌≤◌, ◌<◌}
use native.Mathlib.Nat.{le_refl, le_step}
use native.Mathlib.Omega.{arith}
use lib.Dec.{ltb}
use borrow.Author.Tests.{ltb-true, ltb-false}
use Rattle.cells.proofs.Cells.{split}
use Rattle.word.specs.Bits.{some_below, lowest_below}

-- it fails at every lower one
pub lowest_first : (f : ℕ → Bool) (n i : ℕ) → i < lowest_below f n → f i ≡ false
lowest_first f zero i l = absurd (omega arith)
lowest_first f (suc n) i l = split (f 0) (λ t. absurd (none t)) (λ t. go (λ k. lowest_first (λ i. f (suc i)) n k) i t l)
  where
    none : f 0 ≡ true → ⊥
    none t = let l' : i < 0 = rw t at l in omega arith

    go : ((k : ℕ) → k < lowest_below (λ i. f (suc i)) n → f (suc k) ≡ false) → (i : ℕ) → f 0 ≡ false → i < lowest_below f (suc n) → f i ≡ false
    go up zero t l = t
    go up (suc i) t l = up i (let l' : suc i < suc (lowest_below (λ i. f (suc i)) n) = rw t at l in omega arith)

-- number 0 apart from the rest
pub some_up : (f : ℕ → Bool) (n : ℕ) → some_below f (suc n) ≡ (f 0 || some_below (λ i. f (suc i)) n)
some_up f zero = go (f 0)
  where
    go : (b : Bool) → (false || b) ≡ (b || false)
    go true = refl
    go false = refl
some_up f (suc n) = ap (λ (b : Bool). b || f (suc n)) (some_up f n) ∙ assoc (f 0) (some_below (λ i. f (suc i)) n) (f (suc n))
  where
    assoc : (a b c : Bool) → ((a || b) || c) ≡ (a || (b || c))
    assoc true b c = refl
    assoc false b c = refl

-- both go by the numbers below n alone
pub some_same : (f g : ℕ → Bool) (n : ℕ) → ((i : ℕ) → i < n → f i ≡ g i) → some_below f n ≡ some_below g n
some_same f g zero h = refl
some_same f g (suc n) h = λ i. some_same f g n (λ k l. h k (le_step l)) i || h n (le_refl (suc n)) i

pub lowest_same : (f g : ℕ → Bool) (n : ℕ) → ((i : ℕ) → i < n → f i ≡ g i) → lowest_below f n ≡ lowest_below g n
lowest_same f g zero h = refl
lowest_same f g (suc n) h =
    let up = lowest_same (λ i. f (suc i)) (λ i. g (suc i)) n (λ i l. h (suc i) (omega arith)) in
    λ j. cond (h 0 (omega arith) j) 0 (suc (up j))

-- where it passes at some, it passes there
pub lowest_at : (f : ℕ → Bool) (n : ℕ) → some_below f n ≡ true → (lowest_below f n < n) × (f (lowest_below f n) ≡ true)
lowest_at f zero e = absurd (let z : ◌≡◌ {A = ℕ} 0 1 = cc in omega arith)
lowest_at f (suc n) e = split (f 0) (λ t. rw t (omega arith, t)) (λ t. go t (lowest_at (λ i. f (suc i)) n (rest t)))
  where
    rest : f 0 ≡ false → some_below (λ i. f (suc i)) n ≡ true
    rest t = rw t at (rw (some_up f n) at e)

    go : f 0 ≡ false → (lowest_below (λ i. f (suc i)) n < n) × (f (suc (lowest_below (λ i. f (suc i)) n)) ≡ true)
        → (lowest_below f (suc n) < suc n) × (f (lowest_below f (suc n)) ≡ true)
    go t h = rw t (omega (arith, h.0), h.1)

-- it passes at some where it passes at i
pub some_at : (f : ℕ → Bool) (n i : ℕ) → i < n → f i ≡ true → some_below f n ≡ true
some_at f zero i l e = absurd (omega arith)
some_at f (suc n) zero l e = rw (some_up f n, e)
some_at f (suc n) (suc i) l e = rw (some_up f n, some_at (λ i. f (suc i)) n i (omega arith) e) (or-true (f 0))

-- a number that passes while every lower one fails is the lowest
pub lowest_once : (f : ℕ → Bool) (n b : ℕ) → b < n → f b ≡ true → ((i : ℕ) → i < b → f i ≡ false) → lowest_below f n ≡ b
lowest_once f n b l e h =
    let k = lowest_below f n in
    split (ltb k b) (λ t. absurd (false≢true (sym (h k (ltb-true k b t)) ∙ (lowest_at f n (some_at f n b l e)).1)))
    (λ t. split (ltb b k) (λ u. absurd (false≢true (sym (lowest_first f n b (ltb-true b k u)) ∙ e))) (λ u. omega (arith, ltb-false k b t, ltb-false b k u)))

-- so more numbers above n change nothing
pub lowest_more : (f : ℕ → Bool) (n m : ℕ) → n ≤ m → some_below f n ≡ true → lowest_below f m ≡ lowest_below f n
lowest_more f n m l e = let at = lowest_at f n e in lowest_once f m (lowest_below f n) (omega (arith, l, at.0)) at.1 (lowest_first f n)
