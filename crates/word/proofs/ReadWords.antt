-- What the word reader answers, by the entry that is found; and what a word that is read has. Assumes nothing.
use Rattle.std.specs.Prelude.{Option, None, Some, Result, Ok, Err}
use mathlib.Core.Path.{◌≡◌, refl, ◌∙◌}
use mathlib.Core.Bool.{Bool, true, false, not}
use Prim.Native.Nat.{ℕ, ◌<◌}
use native.Mathlib.Omega.{arith}
use Rattle.cells.proofs.Cells.{split}
use Rattle.word.specs.Table.{Row}
use Rattle.word.specs.Entries.{entry_of, found_of, masked, masked_bit}
use Rattle.word.specs.Operands.{operands_of}
use Rattle.word.specs.Word.{row_of, unknown_in, stray_at, stray_in, offending_in, operands_in, unknown_opcode, unnamed_bit, offending_bit, word_operands, read_as, read_word}
use Rattle.word.specs.declared.table.Entry.{Entry}
use Rattle.word.specs.declared.Operands.{Operands}
use Rattle.word.specs.declared.Refusal.TheVariants.{UnknownOpcode, UnnamedBit}
use Rattle.word.proofs.Lowest.{lowest_at}
use Rattle.word.proofs.Rule.{mask_ranges, mask_offending}
use Rattle.word.specs.declared.Refusal.{Refusal}

-- ---- by the entry that is found

abbrev read_in : Option Row → ℕ → Result Operands Refusal
read_in o w = read_as (unknown_in o) (stray_in o w) (offending_in o w) (operands_in o w)

read_in_lem : (w : ℕ) → read_word w ≡ read_in (row_of w) w
unfolding read_word unknown_opcode unnamed_bit offending_bit word_operands
read_in_lem w = refl

pub read_none : (w : ℕ) → found_of (row_of w) ≡ None → read_word w ≡ Err UnknownOpcode
read_none w e = read_in_lem w ∙ go (row_of w) e
  where
    go : (o : Option Row) → found_of o ≡ None → read_in o w ≡ Err UnknownOpcode
    go None e = refl
    go (Some r) e = absurd (let z : ◌≡◌ {A = ℕ} 0 1 = cc in omega arith)

pub read_at : (w : ℕ) (e : Entry) → found_of (row_of w) ≡ Some e → read_word w ≡ read_as false (not (masked w e.1)) (masked_bit w e.1) (operands_of e.2 w)
read_at w e h = read_in_lem w ∙ go (row_of w) refl h
  where
    entry : (r : Row) → Some (entry_of r) ≡ Some e → entry_of r ≡ e
    entry r h = cc

    -- the bit counts only where one is unnamed
    by_bit : (r : Row) → row_of w ≡ Some r → read_in (Some r) w ≡ read_as false (stray_in (Some r) w) (masked_bit w (entry_of r).1) (operands_of r.class w)
    by_bit r q = split (stray_in (Some r) w) (λ t. rw t (λ j. Err (UnnamedBit (mask_offending w r q t j)))) (λ t. rw t)

    go : (o : Option Row) → row_of w ≡ o → found_of o ≡ Some e → read_in o w ≡ read_as false (not (masked w e.1)) (masked_bit w e.1) (operands_of e.2 w)
    go None q h = absurd (let z : ◌≡◌ {A = ℕ} 0 1 = cc in omega arith)
    go (Some r) q h =
        by_bit r q
        ∙ (λ j. read_as false (mask_ranges w r q j) (masked_bit w (entry_of r).1) (operands_of r.class w))
        ∙ (λ j. read_as false (not (masked w (entry r h j).1)) (masked_bit w (entry r h j).1) (operands_of (entry r h j).2 w))

-- ---- a word that is read is of a known opcode, and all its bits are named

pub record WasRead (w : ℕ) (f : Operands) : Type 0 where
  pub known : unknown_opcode w ≡ false
  pub named : unnamed_bit w ≡ false
  pub operands : word_operands w ≡ f

pub was_read : (w : ℕ) (f : Operands) → read_word w ≡ Ok f → WasRead w f
unfolding read_word
was_read w f e = go (unknown_opcode w) (unnamed_bit w) refl refl e
  where
    go : (u n : Bool) → unknown_opcode w ≡ u → unnamed_bit w ≡ n
        → read_as u n (offending_bit w) (word_operands w) ≡ Ok f → WasRead w f
    go true n p q e = absurd (let z : ◌≡◌ {A = ℕ} 0 1 = cc in omega arith)
    go false true p q e = absurd (let z : ◌≡◌ {A = ℕ} 0 1 = cc in omega arith)
    go false false p q e = record { known = p; named = q; operands = cc }

-- ---- where an unnamed bit is 1, the lowest is one of the 24

pub offending_low : (w : ℕ) → unnamed_bit w ≡ true → offending_bit w < 24
unfolding unnamed_bit offending_bit
offending_low w e = go (row_of w) e
  where
    go : (o : Option Row) → stray_in o w ≡ true → offending_in o w < 24
    go None e = absurd (let z : ◌≡◌ {A = ℕ} 0 1 = cc in omega arith)
    go (Some r) e = (lowest_at (stray_at r.named w) 24 e).0
