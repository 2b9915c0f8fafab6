-- The code's arrays, as lists: an entry that is read, and a loop that tests each entry. Assumes nothing.
use mathlib.Core.Path.{◌≡◌, refl, ◌∙◌}
use mathlib.Core.Bool.{Bool, true, ◌&&◌}
use mathlib.Core.List.{List, [], ◌∷◌}
use Prim.Native.Nat.{ℕ, zero, suc, ◌+◌, ◌<◌, ◌≤◌}
use native.Mathlib.Nat.{not-suc-le-zero, le_of_suc-le-suc}
use native.Mathlib.Numerals.{add-one}
use native.Mathlib.Omega.{arith}
use lib.ListN.{length, get_or}
use Rattle.cells.specs.Tests.{below}

-- inside a list no default is read
pub get_d_in : {A : Type 0} (l : List A) (d e : A) (i : ℕ) → i < length l → get_or l i d ≡ get_or l i e
get_d_in [] d e i h = absurd (not-suc-le-zero h)
get_d_in (x ∷ xs) d e zero h = refl
get_d_in (x ∷ xs) d e (suc i) h = get_d_in xs d e i (le_of_suc-le-suc h)

-- a loop that joins the tests of n entries, before entry i
pub record Passed (f : ℕ → Bool) (n : ℕ) (all : Bool) (i : ℕ) : Type 0 where
  pub so_far : all ≡ below f i
  pub inside : i ≤ n

pub passed_none : (f : ℕ → Bool) (n : ℕ) → Passed f n true 0
passed_none f n = record { so_far = refl; inside = omega arith }

-- a turn of it
pub passed_more : {f : ℕ → Bool} {n : ℕ} {all : Bool} {i : ℕ} {b : Bool} → Passed f n all i → i < n → b ≡ f i → Passed f n (all && b) (i + 1)
passed_more p l q = record { so_far = rw (p.so_far, q, add-one); inside = omega arith }

-- and its end
pub passed_all : {f : ℕ → Bool} {n : ℕ} {all : Bool} {i : ℕ} → Passed f n all i → n ≤ i → all ≡ below f n
passed_all {n = n} {i = i} p l = let e : i ≡ n = omega arith in p.so_far ∙ rw e
