-- `precheck::classes::check_set` meets its contract: the mode, then the clear. Assumes nothing.
use mathlib.Core.Path.{sym, ap, ◌∙◌}
use Rattle.rules.specs.Access.{reads_of, sets_of, unsets_of}
use Rattle.rules.specs.Rules.{operand_rules, lowest, refused_if}
use Rattle.control.specs.Halves.{joined}
use Rattle.precheck.specs.Instruction.{marks_after}
use Rattle.precheck.specs.Marks.{marks}
use Rattle.precheck.proofs.ByClass.{nothing_set, cleared_by}
use Rattle.precheck.proofs.Judged.{nothing_read, handed_on}
use lib.Dec.{leb}
use Rattle.word.specs.declared.SetCounters.{SetCounters}
use Rattle.word.specs.declared.Refusal.TheVariants.{UndefinedMode}
use Rattle.precheck.proofs.classes.check_set.Goals as goal

pub returns-in_err-judge_counters : goal.returns-in_err-judge_counters
unfolding operand_rules lowest
returns-in_err-judge_counters c = λ s t d r. handed_on _ _ _ _ (c.judge_counters.ensures.verdict ∙ ap (λ (x : SetCounters). refused_if (leb 1 x.mode) UndefinedMode) c.fields-x.ensures) c.in_err-judge_counters.was c.from_residual.ensures.1 _

pub returns : goal.returns
unfolding joined operand_rules lowest reads_of sets_of unsets_of marks_after
returns c = let args = c.args in
    λ s t d r. let m = marks args.srca.now args.srcb.now d r in
    nothing_read _ m _ _ (sym c.in_ok-judge_counters.was ∙ (c.judge_counters.ensures.verdict ∙ ap (λ (x : SetCounters). refused_if (leb 1 x.mode) UndefinedMode) c.fields-x.ensures)) (nothing_set m) (cleared_by m (joined args.k s) (ap (λ (x : SetCounters). x.clear) c.fields-x.ensures) (c.unset_cleared.ensures d r))
