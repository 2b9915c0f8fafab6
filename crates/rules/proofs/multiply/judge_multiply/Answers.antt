-- `rules::multiply::judge_multiply` meets its contract. Assumes nothing.
-- the rules by the fields of the word
use Rattle.std.specs.Prelude.{Result, ⊤}
use Rattle.rules.proofs.ByCore.{row_dst_by}
use Rattle.rules.specs.Multiply.{multiply_modes, modelled, row_dst}
use Rattle.rules.specs.Rules.{both_owned, Judged, ◌when◌, operand_rules, lowest, verdict_answer, lowest_answer}
use Rattle.word.specs.declared.Refusal.TheVariants.{UndefinedMode, UnmodelledSettings, BankOwner, DstRow}
use Rattle.word.specs.declared.Multiply.{Multiply}
use Rattle.word.specs.declared.MultiplyWord.{MultiplyWord}
use Rattle.word.specs.Operands.{multiply_of}
use Rattle.cells.specs.Places.{row_count}
use Rattle.control.specs.declared.Core.{Core}
use Rattle.control.specs.declared.Control.{Control}
use Rattle.control.specs.Record.{width_of}
use mathlib.Core.Bool.{not}
use mathlib.Core.List.{List, [], ◌∷◌}
use lib.Dec.{leb}
use Rattle.rules.proofs.Reading.{told_of_all}
use Rattle.word.specs.declared.Operands.TheVariants as operands
use Rattle.control.specs.Halves.{Choice, joined}
use Prim.Native.Nat.{ℕ}
use borrow.Author.Tests.{le-leb, lt-leb}
use mathlib.Core.Path.{◌≡◌, subst, ◌∙◌}
use Rattle.rules.proofs.multiply.judge_multiply.Goals as goal
use Rattle.word.specs.declared.Refusal.{Refusal}

abbrev ruled : Control → ℕ → Multiply → List Judged
ruled c t m =
    (UndefinedMode when leb (multiply_modes m.height) m.mode) ∷
    (UnmodelledSettings when not (modelled c.settings)) ∷
    (BankOwner when not (both_owned c)) ∷
    (DstRow when leb (row_count (width_of c.settings)) (row_dst c t m.height m.dst)) ∷
    []

told : (k : Core) (t : ℕ) (w : MultiplyWord) {m : Multiply} {v : Result ⊤ Refusal} → m ≡ multiply_of w
    → ((s : ℕ → Choice) → v ≡ lowest (ruled (joined k s) t m))
    → record {
      verdict : (s : ℕ → Choice) → v ≡ lowest (operand_rules (joined k s) t (operands.Multiply w));
      number : (s : ℕ → Choice) → verdict_answer v ≡ lowest_answer (operand_rules (joined k s) t (operands.Multiply w));
    }
unfolding operand_rules
told k t w {m} {v} e h =
    told_of_all (λ (s : ℕ → Choice). operand_rules (joined k s) t (operands.Multiply w)) v
    (λ s. subst (λ (m : Multiply). v ≡ lowest (ruled (joined k s) t m)) e (h s))

pub returns-then-multiply_modes-m : goal.returns-then-multiply_modes-m
unfolding joined lowest
returns-then-multiply_modes-m c = let a = c.args in let e = c.fields-m.ensures in
    told a.k a.thread a.w e (λ s. simp (← c.multiply_modes.ensures, le-leb _ _ c.if-multiply_modes-m.true))

pub returns-then-both_owned : goal.returns-then-both_owned
unfolding joined lowest
returns-then-both_owned c = let a = c.args in let e = c.fields-m.ensures in
    told a.k a.thread a.w e (λ s. simp (← c.multiply_modes.ensures, lt-leb _ _ c.if-multiply_modes-m.false, ← c.is_modelled.ensures, c.if-is_modelled.true, ← c.both_owned.ensures s, c.if-both_owned.true, c.refused_if.ensures.verdict, c.past_end.ensures, c.row_dst-row.ensures ∙ row_dst_by a.k s a.thread c.own_at-x.ensures c.fields-m.result.height c.fields-m.result.dst))

pub returns-then-is_modelled : goal.returns-then-is_modelled
unfolding joined lowest
returns-then-is_modelled c = let a = c.args in let e = c.fields-m.ensures in
    told a.k a.thread a.w e (λ s. simp (← c.multiply_modes.ensures, lt-leb _ _ c.if-multiply_modes-m.false, ← c.is_modelled.ensures, c.if-is_modelled.true, ← c.both_owned.ensures s, c.if-both_owned.false))

pub returns : goal.returns
unfolding joined lowest
returns c = let a = c.args in let e = c.fields-m.ensures in
    told a.k a.thread a.w e (λ s. simp (← c.multiply_modes.ensures, lt-leb _ _ c.if-multiply_modes-m.false, ← c.is_modelled.ensures, c.if-is_modelled.false))
