-- The table of twenty: an opcode that it lacks, and its rule, proved once over the table. Assumes nothing.
use Rattle.std.specs.Prelude.{None, Some}
use mathlib.Core.Path.{◌≡◌, refl, sym, ap, ◌∙◌, subst}
use mathlib.Core.Bool.{Bool, true, false, cond, ◌&&◌, not}
use mathlib.Core.List.{List, [], ◌∷◌}
use Prim.Native.Nat.{ℕ, ◌+◌, ◌-◌, ◌%◌, ◌/◌, ◌^◌, ◌<◌}
use native.Mathlib.Omega.{arith}
use lib.Dec.{eqb}
use borrow.Author.Tests.{ne_eqb, eqb-true}
use lib.Pow.{field, mod-mod-pow}
use Rattle.cells.specs.Cells.{between}
use Rattle.cells.specs.Tests.{below}
use Rattle.cells.proofs.Tests.{below_of}
use Rattle.cells.proofs.Cells.{split, both}
use Rattle.word.specs.Bits.{bit, in_ranges, some_below}
use Rattle.word.specs.Table.{Row, table, lookup}
use Rattle.word.specs.Entries.{mask_of, masked, masked_bit}
use Rattle.word.specs.Operands.{opcode_of}
use Rattle.word.specs.Word.{row_of, stray_at, stray_in, offending_in}
use Rattle.word.proofs.Every.{Every}
use Rattle.word.proofs.Lowest.{some_same, lowest_same, lowest_more}
use Rattle.word.proofs.Masks.{mask_bits, mask_lowest}

-- ---- an opcode that no row has

-- each row's opcode is another, the last row's outermost
abbrev pub Away : List Row → ℕ → Type 0 → Type 0
Away [] op T = T
Away (r ∷ rs) op T = Away rs op (T × (op ≡ r.opcode → ⊥))

pub away : (rs : List Row) (op : ℕ) (T : Type 0) → Away rs op T → T × (lookup rs op ≡ None)
away [] op T h = (h, refl)
away (r ∷ rs) op T h =
    let others = away rs op (T × (op ≡ r.opcode → ⊥)) h in
    (others.0.0, rw (ne_eqb r.opcode op (λ q. others.0.1 (sym q))) others.1)

-- ---- the rule of an entry: bit i of its mask is 1 just where the paper's ranges have bit i

abbrev same : Bool → Bool → Bool
same true b = b
same false b = not b

same_is : (a b : Bool) → same a b ≡ true → a ≡ b
same_is true true e = refl
same_is true false e = sym e
same_is false true e = e
same_is false false e = refl

abbrev right : Row → Bool
right r = below (λ i. same (bit (mask_of r.named) i) (in_ranges r.named i)) 24

abbrev every : (Row → Bool) → List Row → Bool
every f [] = true
every f (r ∷ rs) = f r && every f rs

-- the whole table, computed
rule : every right table ≡ true
unfolding table between
rule = refl

-- ---- what holds of each row holds of the one that is found

tested : (f : Row → Bool) (rs : List Row) → every f rs ≡ true → Every (λ r. f r ≡ true) rs
tested f [] h = tt
tested f (r ∷ rs) h = let b = both (f r) (every f rs) h in (b.0, tested f rs b.1)

pub found_of_lem : (P : Row → Type 0) (rs : List Row) (op : ℕ) (r : Row) → Every P rs → lookup rs op ≡ Some r → P r
found_of_lem P [] op r h e = absurd (none_some e)
  where
    none_some : None ≡ Some r → ⊥
    none_some e = let z : ◌≡◌ {A = ℕ} 0 1 = cc in omega arith
found_of_lem P (x ∷ rs) op r h e =
    split (eqb x.opcode op)
    (λ t. subst P (here t) h.0)
    (λ t. found_of_lem P rs op r h.1 (sym (ap (λ (z : Bool). cond z (Some x) (lookup rs op)) t) ∙ e))
  where
    here : eqb x.opcode op ≡ true → x ≡ r
    here t = let e' : Some x ≡ Some r = sym (ap (λ (z : Bool). cond z (Some x) (lookup rs op)) t) ∙ e in cc

-- and has the opcode that was looked for
pub found_opcode : (rs : List Row) (op : ℕ) (r : Row) → lookup rs op ≡ Some r → r.opcode ≡ op
found_opcode [] op r e = absurd (let z : ◌≡◌ {A = ℕ} 0 1 = cc in omega arith)
found_opcode (x ∷ rs) op r e =
    split (eqb x.opcode op)
    (λ t. let e' : Some x ≡ Some r = sym (ap (λ (z : Bool). cond z (Some x) (lookup rs op)) t) ∙ e in here e' (eqb-true x.opcode op t))
    (λ t. found_opcode rs op r (sym (ap (λ (z : Bool). cond z (Some x) (lookup rs op)) t) ∙ e))
  where
    here : Some x ≡ Some r → x.opcode ≡ op → r.opcode ≡ op
    here e q = let same : x ≡ r = cc in sym (ap (λ (r : Row). r.opcode) same) ∙ q

-- ---- so the mask says what the ranges say

abbrev strays : ℕ → Row → ℕ → Bool
strays w r i = bit (w % 2 ^ 24) i && not (bit (mask_of r.named) i)

module _ (w : ℕ) (r : Row) (e : row_of w ≡ Some r) where
  stray_bits : (i : ℕ) → i < 24 → strays w r i ≡ stray_at r.named w i
  stray_bits i h =
      let m = mask_of r.named in
      let is = below_of (λ i. same (bit m i) (in_ranges r.named i)) 24 (found_of_lem (λ r. right r ≡ true) table (opcode_of w) r (tested right table rule) e) in
      λ j. low_bit w i h j && not (same_is (bit m i) (in_ranges r.named i) (is i h) j)
    where
      low_bit : (w i : ℕ) → i < 24 → bit (w % 2 ^ 24) i ≡ bit w i
      low_bit w i h =
          let whole : 24 ≡ 23 - i + 1 + i = omega arith in
          ap (λ (x : ℕ). eqb (x % 2) 1) (ap (λ (n : ℕ). w % 2 ^ n / 2 ^ i) whole ∙ field w (23 - i + 1) i)
          ∙ ap (λ (x : ℕ). eqb x 1) (mod-mod-pow (w / 2 ^ i) (23 - i) 1)

  -- an unnamed bit is 1 just where masking changes the word
  pub mask_ranges : stray_in (Some r) w ≡ not (masked w (mask_of r.named))
  mask_ranges =
      sym
      (ap not (mask_bits 24 (w % 2 ^ 24) (mask_of r.named) (omega arith)) ∙ not_not (some_below (strays w r) 24)
      ∙ some_same (strays w r) (stray_at r.named w) 24 stray_bits)
    where
      not_not : (b : Bool) → not (not b) ≡ b
      not_not true = refl
      not_not false = refl

  -- and the lowest is then the lowest that masking takes away
  pub mask_offending : stray_in (Some r) w ≡ true → offending_in (Some r) w ≡ masked_bit w (mask_of r.named)
  mask_offending t =
      sym
      (mask_lowest 32 (w % 2 ^ 24) (mask_of r.named)
      ∙ lowest_more (strays w r) 24 32 (omega arith) (some_same (strays w r) (stray_at r.named w) 24 stray_bits ∙ t)
      ∙ lowest_same (strays w r) (stray_at r.named w) 24 stray_bits)
