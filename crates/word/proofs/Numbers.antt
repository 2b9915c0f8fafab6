-- Each refusal's number is one of the table's, so it is not 10 and fits a byte; and 3 alone has a bit. Assumes nothing.
use Rattle.std.specs.Prelude.{None}
use mathlib.Core.Path.{◌≡◌, refl, ap, ◌∙◌}
use mathlib.Core.Bool.{Bool, true, false≢true}
use mathlib.Core.List.{List, [], ◌∷◌, map}
use mathlib.Core.Logic.{◌≢◌}
use Prim.Native.Nat.{ℕ, ◌<◌}
use native.Mathlib.Omega.{arith}
use borrow.Author.Tests.{ne_eqb, eqb-true, ltb-true}
use lib.Dec.{eqb, ltb}
use Rattle.cells.specs.Tests.{one_of}
use Rattle.cells.proofs.Cells.{split}
use Rattle.cells.proofs.Tests.{Each, each_of}
use Rattle.word.specs.Refusal.{number_of, table_numbers, bit_of, bit_number, bit_by}
use Rattle.word.specs.declared.Refusal.{Refusal}
use Rattle.word.specs.declared.Refusal.TheVariants as refusal

pub tabled : (r : Refusal) → one_of (number_of r) table_numbers ≡ true
tabled refusal.StateLength = refl
tabled refusal.Shape = refl
tabled refusal.UnknownOpcode = refl
tabled (refusal.UnnamedBit i) = refl
tabled refusal.UndefinedMode = refl
tabled refusal.UnmodelledSettings = refl
tabled refusal.BankOwner = refl
tabled refusal.DstRow = refl
tabled refusal.UnsetRead = refl

-- what passes at each number of a list passes at one of them
pub one_has : (f : ℕ → Bool) (l : List ℕ) → Each (map f l) → (n : ℕ) → one_of n l ≡ true → f n ≡ true
one_has f [] h n e = absurd (false≢true e)
one_has f (m ∷ l) h n e = split (eqb n m) (λ t. ap f (eqb-true n m t) ∙ h.0) (λ t. one_has f l h.1 n (rw t at e))

-- a number of the table fits a byte, and is not 10
pub tabled_byte : (n : ℕ) → one_of n table_numbers ≡ true → n < 256
tabled_byte n h = ltb-true n 256 (one_has (λ m. ltb m 256) table_numbers (each_of (map (λ (m : ℕ). ltb m 256) table_numbers) refl) n h)

pub tabled_not_ten : (n : ℕ) → one_of n table_numbers ≡ true → n ≢ 10
tabled_not_ten n h e = false≢true (rw e at h)

pub data HasBit (r : Refusal) : Type 0 where
  three : (i : ℕ) → r ≡ refusal.UnnamedBit i → HasBit r
  other : number_of r ≢ 3 → bit_of r ≡ None → HasBit r

pub has_bit : (r : Refusal) → HasBit r
has_bit refusal.StateLength = other (λ e. omega arith) refl
has_bit refusal.Shape = other (λ e. omega arith) refl
has_bit refusal.UnknownOpcode = other (λ e. omega arith) refl
has_bit (refusal.UnnamedBit i) = three i refl
has_bit refusal.UndefinedMode = other (λ e. omega arith) refl
has_bit refusal.UnmodelledSettings = other (λ e. omega arith) refl
has_bit refusal.BankOwner = other (λ e. omega arith) refl
has_bit refusal.DstRow = other (λ e. omega arith) refl
has_bit refusal.UnsetRead = other (λ e. omega arith) refl

-- a bit comes back by the number
pub bit_back : (r : Refusal) → bit_by (number_of r) (bit_number (bit_of r)) ≡ bit_of r
bit_back r = go (has_bit r)
  where
    go : HasBit r → bit_by (number_of r) (bit_number (bit_of r)) ≡ bit_of r
    go (three i q) = rw q
    go (other n e) = rw (e, ne_eqb (number_of r) 3 n)
