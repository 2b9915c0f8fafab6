-- `precheck::classes::check_shift_a` meets its contract: the rules, then the rows that it reads, then those that it sets. Assumes nothing.
use Rattle.rules.specs.Access.{reads_of, sets_of, unsets_of}
use Rattle.rules.specs.Rules.{operand_rules}
use Rattle.precheck.specs.Instruction.{marks_after}
use Rattle.precheck.specs.Marks.{marks}
use Rattle.precheck.proofs.ByClass.{rows_a_read, rows_a_marked}
use Rattle.precheck.proofs.Judged.{handed_on, unset_read_lem, all_read}
use Rattle.precheck.proofs.classes.check_shift_a.Goals as goal

pub returns-in_err-judge_shift_a : goal.returns-in_err-judge_shift_a
unfolding operand_rules
returns-in_err-judge_shift_a c = λ s t b d r. handed_on _ _ _ _ (c.judge_shift_a.ensures.verdict s) c.in_err-judge_shift_a.was c.from_residual.ensures.1 _

pub returns-then-all_set : goal.returns-then-all_set
unfolding operand_rules reads_of sets_of unsets_of marks_after
returns-then-all_set c = λ s t b d r. let m = marks c.args.srca.now b d r in
    all_read _ m _ _ (c.judge_shift_a.ensures.verdict s) c.in_ok-judge_shift_a.was
    (rows_a_read m _ (c.shift_a_reads.ensures s c.args.w) c.all_set.ensures) c.if-all_set.true
    (rows_a_marked m _ (c.shifted_a.ensures s) c.mark_span.ensures)

pub returns : goal.returns
unfolding operand_rules reads_of
returns c = λ s t b d r. let m = marks c.args.srca.now b d r in
    unset_read_lem _ m _ _ (c.judge_shift_a.ensures.verdict s) c.in_ok-judge_shift_a.was
    (rows_a_read m _ (c.shift_a_reads.ensures s c.args.w) c.all_set.ensures) c.if-all_set.false _
