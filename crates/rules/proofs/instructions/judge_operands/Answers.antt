-- `rules::judge_operands` meets its contract: class by class. Assumes nothing.
use Rattle.rules.proofs.Reading.{told_of_all}
use Rattle.rules.specs.Rules.{operand_rules, lowest}
use Rattle.control.specs.Halves.{Choice, joined}
use Prim.Native.Nat.{ℕ}
use Rattle.rules.proofs.instructions.judge_operands.Goals as goal

pub returns-in-Multiply : goal.returns-in-Multiply
unfolding joined operand_rules lowest
returns-in-Multiply c = let a = c.args in
    told_of_all (λ (s : ℕ → Choice). operand_rules (joined a.k s) a.thread a.f) _ (λ s. simp (c.judge_multiply.ensures.verdict s, c.in-Multiply.is))

pub returns-in-Legacy : goal.returns-in-Legacy
unfolding joined operand_rules lowest
returns-in-Legacy c = let a = c.args in
    told_of_all (λ (s : ℕ → Choice). operand_rules (joined a.k s) a.thread a.f) _ (λ s. simp (c.judge_legacy.ensures.verdict s, c.in-Legacy.is))

pub returns-in-SetCounters : goal.returns-in-SetCounters
unfolding joined operand_rules lowest
returns-in-SetCounters c = let a = c.args in
    told_of_all (λ (s : ℕ → Choice). operand_rules (joined a.k s) a.thread a.f) _ (λ s. simp (c.judge_counters.ensures.verdict, c.fields.ensures, c.in-SetCounters.is))

pub returns-in-AddCounters : goal.returns-in-AddCounters
unfolding joined operand_rules lowest
returns-in-AddCounters c = let a = c.args in
    told_of_all (λ (s : ℕ → Choice). operand_rules (joined a.k s) a.thread a.f) _ (λ s. simp (c.judge_counters-in-AddCounters.ensures.verdict, c.fields-in-AddCounters.ensures, c.in-AddCounters.is))

pub returns-in-ZeroSrc : goal.returns-in-ZeroSrc
unfolding joined operand_rules lowest
returns-in-ZeroSrc c = let a = c.args in
    told_of_all (λ (s : ℕ → Choice). operand_rules (joined a.k s) a.thread a.f) _ (λ s. simp (c.in-ZeroSrc.is))

pub returns-in-ShiftA : goal.returns-in-ShiftA
unfolding joined operand_rules lowest
returns-in-ShiftA c = let a = c.args in
    told_of_all (λ (s : ℕ → Choice). operand_rules (joined a.k s) a.thread a.f) _ (λ s. simp (c.judge_shift_a.ensures.verdict s, c.in-ShiftA.is))

pub returns-in-ShiftB : goal.returns-in-ShiftB
unfolding joined operand_rules lowest
returns-in-ShiftB c = let a = c.args in
    told_of_all (λ (s : ℕ → Choice). operand_rules (joined a.k s) a.thread a.f) _ (λ s. simp (c.judge_shift_b.ensures.verdict, c.in-ShiftB.is))

pub returns-in-NoEffect : goal.returns-in-NoEffect
unfolding joined operand_rules lowest
returns-in-NoEffect c = let a = c.args in
    told_of_all (λ (s : ℕ → Choice). operand_rules (joined a.k s) a.thread a.f) _ (λ s. simp (c.in-NoEffect.is))

pub returns-in-Scalar : goal.returns-in-Scalar
unfolding joined operand_rules lowest
returns-in-Scalar c = let a = c.args in
    told_of_all (λ (s : ℕ → Choice). operand_rules (joined a.k s) a.thread a.f) _ (λ s. simp (c.judge_scalar.ensures.verdict, c.in-Scalar.is))
