-- `precheck::classes::check_legacy` meets its contract: both owners, then the clear. Assumes nothing.
use mathlib.Core.Path.{sym, ap, ◌∙◌}
use Rattle.rules.specs.Access.{reads_of, sets_of, unsets_of}
use Rattle.rules.specs.Rules.{operand_rules, lowest}
use Rattle.control.specs.Halves.{joined}
use Rattle.precheck.specs.Instruction.{marks_after}
use Rattle.precheck.specs.Marks.{marks}
use Rattle.precheck.proofs.ByClass.{nothing_set, cleared_by}
use Rattle.precheck.proofs.Judged.{nothing_read, handed_on}
use Rattle.word.specs.declared.Legacy.{Legacy}
use Rattle.precheck.proofs.classes.check_legacy.Goals as goal

pub returns-in_err-judge_legacy : goal.returns-in_err-judge_legacy
unfolding joined operand_rules lowest
returns-in_err-judge_legacy c = λ s t d r. handed_on _ _ _ _ (c.judge_legacy.ensures.verdict s) c.in_err-judge_legacy.was c.from_residual.ensures.1 _

pub returns : goal.returns
unfolding joined operand_rules lowest reads_of sets_of unsets_of marks_after
returns c = let args = c.args in
    λ s t d r. let m = marks args.srca.now args.srcb.now d r in
    nothing_read _ m _ _ (sym c.in_ok-judge_legacy.was ∙ (c.judge_legacy.ensures.verdict s)) (nothing_set m) (cleared_by m (joined args.k s) (ap (λ (x : Legacy). x.clear) c.fields.ensures) (c.unset_cleared.ensures d r))
