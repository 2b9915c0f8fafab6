-- `rules::shifts::judge_shift_a` meets its contract. Assumes nothing.
use Rattle.rules.specs.Rules.{operand_rules, lowest}
use Rattle.rules.proofs.Reading.{told_of_all}
use Rattle.word.specs.declared.Operands.TheVariants as operands
use Rattle.control.specs.Halves.{Choice, joined}
use Prim.Native.Nat.{ℕ}
use borrow.Author.Tests.{lt-ltb, le-ltb}
use Rattle.rules.proofs.shifts.judge_shift_a.Goals as goal

pub returns-then-mode-lt2 : goal.returns-then-mode-lt2
unfolding joined operand_rules lowest
returns-then-mode-lt2 c = let a = c.args in
    told_of_all (λ (s : ℕ → Choice). operand_rules (joined a.k s) 0 (operands.ShiftA a.w)) _ (λ s. simp (← c.mode.ensures, lt-ltb _ _ c.if-mode-lt2.true))

pub returns : goal.returns
unfolding joined operand_rules lowest
returns c = let a = c.args in
    told_of_all (λ (s : ℕ → Choice). operand_rules (joined a.k s) 0 (operands.ShiftA a.w)) _ (λ s. simp (← c.mode.ensures, le-ltb _ _ c.if-mode-lt2.false, c.refused_if.ensures.verdict, c.matrix_owns.ensures))
