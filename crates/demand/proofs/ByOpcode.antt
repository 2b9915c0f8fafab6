-- A word whose step is done acts by the class of its opcode's row: what is so of the table's rows by their opcodes is so of it. Assumes nothing.
use Rattle.std.specs.Prelude.{Option, None, Some, Ok}
use mathlib.Core.Path.{◌≡◌, refl, sym, ap, ◌∙◌}
use mathlib.Core.Bool.{Bool, false, false≢true}
use mathlib.Core.List.{List}
use Prim.Native.Nat.{ℕ}
use Rattle.cells.specs.State.{State}
use Rattle.cells.specs.Tests.{one_of}
use Rattle.cells.proofs.Cells.{both_off}
use Rattle.word.specs.Table.{Row, table}
use Rattle.word.specs.Operands.{opcode_of, operands_of}
use Rattle.word.specs.Word.{row_of, unknown_in, unknown_opcode, unnamed_bit, offending_bit, word_operands, operands_in, read_as, read_word}
use Rattle.word.specs.declared.Class.{Class}
use Rattle.word.specs.declared.Refusal.TheVariants.{UnknownOpcode, UnnamedBit}
use Rattle.word.proofs.Every.{Every}
use Rattle.word.proofs.Rule.{found_of_lem, found_opcode}
use Rattle.control.specs.declared.Control.{Control}
use Rattle.rules.specs.Rules.{rules, operand_rules}
use Rattle.rules.specs.After.{acting_of, acting}
use Rattle.step.specs.Step.{verdict_of}
use Rattle.demand.specs.Breaks.{broken_rule}
use Rattle.demand.proofs.Steps.{step_demand1}

-- the rows whose classes g tells are those with the opcodes of l
abbrev pub ByOpcodes : (Class → Bool) → List ℕ → Type 0
ByOpcodes g l = Every (λ (r : Row). g r.class ≡ one_of r.opcode l) table

pub record Acts (w : ℕ) : Type 0 where
  pub class : Class
  pub operands : acting w ≡ operands_of class w
  pub told : (g : Class → Bool) (l : List ℕ) → ByOpcodes g l → g class ≡ one_of (opcode_of w) l

module _ (w : ℕ) where
  -- a word that has a row
  in_row : unknown_opcode w ≡ false → unnamed_bit w ≡ false → (r : Row) → row_of w ≡ Some r → Acts w
  unfolding acting read_word word_operands
  in_row u b r e =
      record {
        class = r.class;
        operands = (λ i. acting_of (read_as (u i) (b i) (offending_bit w) (word_operands w))) ∙ ap (λ (x : Option Row). operands_in x w) e;
        told = λ g l h.
            found_of_lem (λ r. g r.class ≡ one_of r.opcode l) table (opcode_of w) r h e ∙ ap (λ (op : ℕ). one_of op l) (found_opcode table (opcode_of w) r e);
      }

  -- and one that is read: it has a row
  read_acts : unknown_opcode w ≡ false → unnamed_bit w ≡ false → Acts w
  unfolding unknown_opcode
  read_acts u b = go (row_of w) refl
    where
      go : (x : Option Row) → row_of w ≡ x → Acts w
      go None e = absurd (false≢true (sym u ∙ ap unknown_in e))
      go (Some r) e = in_row u b r e

pub done_acts : (c : Control) (t w : ℕ) (s : State) → verdict_of c t w s ≡ Ok tt → Acts w
unfolding broken_rule rules operand_rules
done_acts c t w s e =
    let q = (step_demand1 c t w s).unbroken e in
    read_acts w (both_off (unknown_opcode w) _ (q UnknownOpcode)).0 (both_off (unnamed_bit w) _ (q (UnnamedBit 0))).0
