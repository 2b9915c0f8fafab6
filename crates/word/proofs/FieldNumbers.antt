-- What the word reader answers is, in numbers, what the word's row says, proved once over the table. Assumes nothing.
use Rattle.std.specs.Prelude.{Option, None, Some}
use mathlib.Core.Path.{◌≡◌, refl, sym}
use mathlib.Core.Bool.{false}
use mathlib.Core.List.{[], ◌∷◌}
use Prim.Native.Nat.{ℕ, ◌+◌, ◌*◌, ◌/◌, ◌%◌, ◌^◌}
use native.Mathlib.Omega.{arith}
use lib.Dec.{eqb}
use borrow.Author.Tests.{eqb-true, eqb-false}
use Rattle.cells.proofs.Cells.{split}
use Rattle.word.specs.Bits.{bits, bit}
use Rattle.word.specs.Table.{Row, table}
use Rattle.word.specs.Operands.{opcode_of, clear_of, which_of, operands_of}
use Rattle.word.specs.Word.{row_of, unknown_in, stray_in, offending_in, operands_in, unknown_opcode, unnamed_bit, offending_bit, word_operands, read_as, read_word}
use Rattle.word.specs.Fields.{fields, digit, clear_number, which_number, operands_answer, read_answer, used_opcode, row_fields, answer_in, word_answer}
use Rattle.word.specs.declared.Class.TheVariants as class
use Rattle.word.proofs.Every.{Every, ◌and◌}
use Rattle.word.proofs.Rule.{found_of_lem, found_opcode}

-- ---- fields of bits

digit_is : (x : ℕ) → digit (eqb (x % 2) 1) ≡ x % 2
digit_is x = split (eqb (x % 2) 1) (λ t. rw t (omega (arith, eqb-true (x % 2) 1 t))) (λ t. rw t (zero_is (eqb-false (x % 2) 1 t)))
  where
    zero_is : (x % 2 ≡ 1 → ⊥) → 0 ≡ x % 2
    zero_is h = omega (arith, h)

-- two bits, one after the other
two : (x y : ℕ) → y ≡ x / 2 → digit (eqb (x % 2) 1) + 2 * digit (eqb (y % 2) 1) ≡ x % 4
two x y e = omega (arith, digit_is x, digit_is y)

clear_is : (w : ℕ) → clear_number (clear_of w) ≡ bits w 23 22
clear_is w = two (w / 2 ^ 22) (w / 2 ^ 23) (omega arith)

which_is : (w : ℕ) → which_number (which_of w) ≡ bits w 3 0
which_is w = omega (arith, two (w / 2 ^ 0) (w / 2 ^ 1) (omega arith), two (w / 2 ^ 2) (w / 2 ^ 3) (omega arith))

-- ---- a word of a row's opcode is taken apart by the fields that the row names

abbrev Right : Row → Type 0
Right r = (w : ℕ) → opcode_of w ≡ r.opcode → operands_answer (operands_of r.class w) ≡ fields (used_opcode r.class r.opcode) (row_fields r w)

right : Every Right table
unfolding table
right =
    multiply 0x26 refl and multiply 0x29 refl
    and (λ w e. rw e (λ i. fields 0x34 (clear_is w i ∷ bits w 21 19 ∷ bits w 16 15 ∷ bits w 13 0 ∷ [])))
    and legacy and legacy and legacy and legacy and legacy and legacy
    and (λ w e i. fields 0x37 (clear_is w i ∷ bits w 21 18 ∷ bits w 17 14 ∷ bits w 13 10 ∷ bits w 9 6 ∷ which_is w i ∷ []))
    and (λ w e. refl)
    and (λ w e i. fields 0x11 (bits w 23 4 ∷ digit_is (w / 2 ^ 3) i ∷ digit_is (w / 2 ^ 2) i ∷ digit_is (w / 2 ^ 1) i ∷ digit_is (w / 2 ^ 0) i ∷ []))
    and (λ w e. refl)
    and (λ w e i. fields 0x18 (bits w 15 14 ∷ digit_is (w / 2 ^ 10) i ∷ bits w 9 0 ∷ []))
    and (λ w e. refl) and (λ w e. refl) and (λ w e. refl)
    and (λ w e. rw e (scalar 0x5B w)) and (λ w e. rw e (scalar 0x5C w)) and (λ w e. rw e (scalar 0x5D w))
    and tt
  where
    -- an opcode that is not GAPOOL's
    multiply : (opcode : ℕ) → eqb opcode 0x34 ≡ false → (w : ℕ) → opcode_of w ≡ opcode
        → operands_answer (operands_of class.Multiply w) ≡ fields 0x26 (bits w 23 22 ∷ bits w 21 19 ∷ bits w 15 14 ∷ bits w 13 0 ∷ [])
    multiply opcode other w e = rw e (rw other (λ i. fields 0x26 (clear_is w i ∷ bits w 21 19 ∷ bits w 15 14 ∷ bits w 13 0 ∷ [])))

    legacy : {opcode : ℕ} (w : ℕ) → opcode_of w ≡ opcode → operands_answer (operands_of class.Legacy w) ≡ fields 0x22 (bits w 23 22 ∷ bits w 15 14 ∷ [])
    legacy w e i = fields 0x22 (clear_is w i ∷ bits w 15 14 ∷ [])

    scalar : (opcode w : ℕ) → fields opcode (digit (bit w 23) ∷ bits w 20 18 ∷ bits w 17 12 ∷ bits w 11 6 ∷ bits w 5 0 ∷ []) ≡ fields opcode (bits w 23 23 ∷ bits w 20 18 ∷ bits w 17 12 ∷ bits w 11 6 ∷ bits w 5 0 ∷ [])
    scalar opcode w i = fields opcode (digit_is (w / 2 ^ 23) i ∷ bits w 20 18 ∷ bits w 17 12 ∷ bits w 11 6 ∷ bits w 5 0 ∷ [])

-- ---- what the reader answers

pub read_answer_lem : (w : ℕ) → read_answer (read_word w) ≡ word_answer w
unfolding read_word unknown_opcode unnamed_bit offending_bit word_operands word_answer
read_answer_lem w = by_row_lem (row_of w) refl
  where
    by_row_lem : (o : Option Row) → row_of w ≡ o → read_answer (read_as (unknown_in o) (stray_in o w) (offending_in o w) (operands_in o w)) ≡ answer_in o w
    by_row_lem None e = refl
    by_row_lem (Some r) e =
        split (stray_in (Some r) w) (λ t. rw t) (λ t. rw t (found_of_lem Right table (opcode_of w) r right e w (sym (found_opcode table (opcode_of w) r e))))
