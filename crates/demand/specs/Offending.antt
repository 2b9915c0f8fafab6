-- Document 02, order 4: the lowest offending bit of a word, said of the rows of document 01's table and of the word's number, apart from the word
-- reader; and that a refusal 3, and no other, has it. Definitions only.
use Rattle.std.specs.Prelude.{◌≡◌, true, List, [], ◌∷◌, ◌⊎◌, ◌≢◌, ℕ, ◌/◌, ◌%◌, ◌^◌, ◌≤◌, ◌<◌, Option, None, Some}
use Rattle.word.specs.Bits.{Range}
use Rattle.word.specs.Table.{Row, table}
use Rattle.word.specs.Refusal.{number_of, bit_of}
use Rattle.word.specs.Fields.{refused_by, word_answer}
use Rattle.word.specs.declared.Refusal.{Refusal}
use Rattle.word.specs.declared.Refusal.TheVariants.{UnknownOpcode}
use Rattle.control.specs.declared.Control.{Control}
use Rattle.rules.specs.Rules.{rules}
use Rattle.demand.specs.Breaks.{broken_rule}

-- ---- the bit

-- a row is one of the table's
abbrev pub Listed : Row → List Row → Type 0
Listed r [] = ⊥
Listed r (x ∷ xs) = (r ≡ x) ⊎ Listed r xs

-- one of the ranges has bit i
abbrev pub Names : List Range → ℕ → Type 0
Names [] i = ⊥
Names (x ∷ xs) i = ((x.lo ≤ i) × (i ≤ x.hi)) ⊎ Names xs i

-- a row of the table that has bits 31:24 of w as its opcode
pub record RowFor (w : ℕ) (r : Row) : Type 0 where
  pub listed : Listed r table
  pub opcode : r.opcode ≡ w / 2 ^ 24 % 2 ^ 8

-- bit b of w, below the opcode, is 1 and not named by the row of w; every lower one is 0 or named
pub record LowestOffending (w b : ℕ) : Type 0 where
  pub row : Row
  pub for : RowFor w row
  pub below : b < 24
  pub one : w / 2 ^ b % 2 ≡ 1
  pub unnamed : Names row.named b → ⊥
  pub lower : (i : ℕ) → i < b → (w / 2 ^ i % 2 ≡ 0) ⊎ Names row.named i

-- ---- who says it

-- a refusal by a word: number 3 has this bit of it, any other number none
pub data BitTold (w : ℕ) (r : Refusal) : Type 0 where
  three : (b : ℕ) → number_of r ≡ 3 → bit_of r ≡ Some b → LowestOffending w b → BitTold w r
  other : number_of r ≢ 3 → bit_of r ≡ None → BitTold w r

-- the word reader's refusal n with a bit or none: 2 where no row is for the word, or 3 with this bit
pub data WordTold (w n : ℕ) (x : Option ℕ) : Type 0 where
  unknown : n ≡ 2 → x ≡ None → ((r : Row) → RowFor w r → ⊥) → WordTold w n x
  offending : (b : ℕ) → n ≡ 3 → x ≡ Some b → LowestOffending w b → WordTold w n x

-- the word reader refuses any word exactly so: with 2 whatever its bits, and 3 with the one lowest offending bit
pub record WordBits (w : ℕ) : Type 0 where
  pub told : (n : ℕ) (x : Option ℕ) → word_answer w ≡ refused_by n x → WordTold w n x
  pub two : ((r : Row) → RowFor w r → ⊥) → word_answer w ≡ refused_by 2 None
  pub three : (b : ℕ) → LowestOffending w b → word_answer w ≡ refused_by 3 (Some b)

-- and under any record and thread it breaks the rules 2 and 3 exactly then
pub record RuleBits (c : Control) (t w : ℕ) : Type 0 where
  pub unknown : broken_rule UnknownOpcode (rules c t w) ≡ true → (r : Row) → RowFor w r → ⊥
  pub two : ((r : Row) → RowFor w r → ⊥) → broken_rule UnknownOpcode (rules c t w) ≡ true
  pub offends : (q : Refusal) → number_of q ≡ 3 → broken_rule q (rules c t w) ≡ true → (b : ℕ) × LowestOffending w b
  pub three : (q : Refusal) → number_of q ≡ 3 → (b : ℕ) → LowestOffending w b → broken_rule q (rules c t w) ≡ true
