-- `precheck::classes::check_operands` meets its contract: class by class. Assumes nothing.
use mathlib.Core.Path.{refl, ap, ◌∙◌}
use Rattle.rules.specs.Access.{reads_of, sets_of, unsets_of}
use Rattle.rules.specs.Rules.{operand_rules, lowest, refused_if}
use Rattle.precheck.specs.Instruction.{marks_after}
use Rattle.precheck.specs.Marks.{marks}
use Rattle.precheck.proofs.ByClass.{nothing_set, unmarked}
use Rattle.precheck.proofs.Judged.{as_class, nothing_read}
use lib.Dec.{leb}
use Rattle.word.specs.declared.AddCounters.{AddCounters}
use Rattle.word.specs.declared.Refusal.TheVariants.{UndefinedMode}
use Rattle.precheck.proofs.classes.check_operands.Goals as goal

pub returns-in-AddCounters : goal.returns-in-AddCounters
unfolding operand_rules lowest reads_of sets_of unsets_of marks_after
returns-in-AddCounters c = let args = c.args in
    λ s. let m = marks args.srca.now args.srcb.now args.dst.now args.registers.now in
    as_class c.in-AddCounters.is (nothing_read _ m _ _ (c.judge_counters.ensures.verdict ∙ ap (λ (x : AddCounters). refused_if (leb 1 x.mode) UndefinedMode) c.fields.ensures) (nothing_set m) (unmarked m))

pub returns-in-NoEffect : goal.returns-in-NoEffect
unfolding operand_rules lowest reads_of sets_of unsets_of marks_after
returns-in-NoEffect c = let args = c.args in
    λ s. let m = marks args.srca.now args.srcb.now args.dst.now args.registers.now in
    as_class c.in-NoEffect.is (nothing_read _ m _ _ refl (nothing_set m) (unmarked m))
