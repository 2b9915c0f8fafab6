-- `precheck::classes::check_shift_b` meets its contract: the rules, then its row. Assumes nothing.
use Rattle.rules.specs.Access.{reads_of, sets_of, unsets_of}
use Rattle.rules.specs.Rules.{operand_rules, lowest}
use Rattle.control.specs.Halves.{joined}
use Rattle.precheck.specs.Instruction.{marks_after}
use Rattle.precheck.specs.Marks.{marks}
use Rattle.precheck.proofs.ByClass.{rows_b_read, unmarked}
use Rattle.precheck.proofs.Judged.{handed_on, unset_read_lem, all_read}
use Rattle.precheck.proofs.classes.check_shift_b.Goals as goal

pub returns-in_err-judge_shift_b : goal.returns-in_err-judge_shift_b
unfolding joined operand_rules lowest
returns-in_err-judge_shift_b c = λ s a d r. handed_on _ _ _ _ c.judge_shift_b.ensures.verdict c.in_err-judge_shift_b.was c.from_residual.ensures.1 _

pub returns-then-all_set : goal.returns-then-all_set
unfolding joined operand_rules lowest reads_of sets_of unsets_of marks_after
returns-then-all_set c = λ s a d r. let m = marks a c.args.srcb.now d r in
    all_read _ m _ _ c.judge_shift_b.ensures.verdict c.in_ok-judge_shift_b.was
    (rows_b_read m _ (c.shift_b_reads.ensures s) c.all_set.ensures) c.if-all_set.true (unmarked m)

pub returns : goal.returns
unfolding joined operand_rules lowest reads_of
returns c = λ s a d r. let m = marks a c.args.srcb.now d r in
    unset_read_lem _ m _ _ c.judge_shift_b.ensures.verdict c.in_ok-judge_shift_b.was
    (rows_b_read m _ (c.shift_b_reads.ensures s) c.all_set.ensures) c.if-all_set.false _
