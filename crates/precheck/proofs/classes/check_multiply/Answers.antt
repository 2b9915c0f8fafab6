-- `precheck::classes::check_multiply` meets its contract: the rules, then the rows that it reads, then the clear. Assumes nothing.
use Rattle.rules.specs.Access.{reads_of, sets_of, unsets_of}
use Rattle.control.specs.Halves.{joined}
use Rattle.precheck.specs.Instruction.{marks_after}
use Rattle.precheck.specs.Marks.{marks}
use Rattle.precheck.proofs.ByClass.{rows_read_lem, cleared_by}
use Rattle.precheck.proofs.Judged.{handed_on, unset_read_lem, all_read}
use mathlib.Core.Path.{ap}
use Rattle.word.specs.declared.Multiply.{Multiply}
use Rattle.precheck.proofs.classes.check_multiply.Goals as goal

pub returns-in_err-judge_multiply : goal.returns-in_err-judge_multiply
returns-in_err-judge_multiply c = λ s r. handed_on _ _ _ _ (c.judge_multiply.ensures.verdict s) c.in_err-judge_multiply.was c.from_residual.ensures.1 _

pub returns-then-all_set : goal.returns-then-all_set
unfolding joined reads_of sets_of unsets_of marks_after
returns-then-all_set c = let args = c.args in
    λ s r. let m = marks args.srca.now args.srcb.now args.dst.now r in
    all_read _ m _ _ (c.judge_multiply.ensures.verdict s) c.in_ok-judge_multiply.was
    (rows_read_lem m _ _ _ (c.multiply_reads-reads.ensures s) c.all_set.ensures c.all_set-2.ensures c.all_set-3.ensures) c.if-all_set.true
    (cleared_by m (joined args.k s) (ap (λ (x : Multiply). x.clear) c.fields.ensures) (c.unset_cleared.ensures args.dst.now r))

pub returns : goal.returns
unfolding joined reads_of
returns c = let args = c.args in
    λ s r. let m = marks args.srca.now args.srcb.now args.dst.now r in
    unset_read_lem _ m _ _ (c.judge_multiply.ensures.verdict s) c.in_ok-judge_multiply.was
    (rows_read_lem m _ _ _ (c.multiply_reads-reads.ensures s) c.all_set.ensures c.all_set-2.ensures c.all_set-3.ensures) c.if-all_set.false _
