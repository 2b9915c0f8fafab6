-- `precheck::classes::check_scalar` meets its contract: the mode, then the registers, each where it stands. Assumes nothing.
use Rattle.rules.specs.Access.{reads_of, sets_of, unsets_of, no_unsets}
use Rattle.rules.specs.Rules.{operand_rules, lowest}
use Rattle.precheck.specs.Instruction.{marks_after}
use Rattle.precheck.specs.Marks.{marks, reads_set, instruction_marks}
use Rattle.precheck.proofs.ByClass.{registers_read_lem, register_marked}
use Rattle.precheck.proofs.Judged.{handed_on, unset_read_lem, all_read}
use mathlib.Core.Path.{ap, ◌∙◌}
use Rattle.cells.specs.Layout.{one_register}
use Rattle.word.specs.declared.Scalar.{Scalar}
use Rattle.rules.specs.Vocabulary.{registers_read, registers_set}
use Rattle.rules.specs.Scalar.{scalar_b}
use Rattle.precheck.proofs.classes.check_scalar.Goals as goal

pub returns-in_err-judge_scalar : goal.returns-in_err-judge_scalar
unfolding operand_rules lowest
returns-in_err-judge_scalar c = λ k a b d. handed_on k _ _ _ c.judge_scalar.ensures.verdict c.in_err-judge_scalar.was c.from_residual.ensures.1 _

pub returns-then-left-right : goal.returns-then-left-right
unfolding operand_rules lowest reads_of sets_of unsets_of marks_after
returns-then-left-right c = let args = c.args in
    λ k a b d. let m = marks a b d args.registers.now in
    all_read k m _ _ c.judge_scalar.ensures.verdict c.in_ok-judge_scalar.was
    (registers_read_lem m args.thread c.fields-x.result c.register_at.ensures c.register_at-2.ensures c.is_set-left.ensures c.is_set.ensures ∙ ap (λ (x : Scalar). reads_set m (registers_read (one_register args.thread x.a) (scalar_b args.thread x))) c.fields-x.ensures) c.if-left-right.true
    (register_marked m args.thread c.fields-x.result.result c.register_at-then-left-right.ensures c.set_one.ensures ∙ ap (λ (x : Scalar). instruction_marks m (registers_set (one_register args.thread x.result)) no_unsets) c.fields-x.ensures)

pub returns : goal.returns
unfolding operand_rules lowest reads_of
returns c = let args = c.args in
    λ k a b d. let m = marks a b d args.registers.now in
    unset_read_lem k m _ _ c.judge_scalar.ensures.verdict c.in_ok-judge_scalar.was
    (registers_read_lem m args.thread c.fields-x.result c.register_at.ensures c.register_at-2.ensures c.is_set-left.ensures c.is_set.ensures ∙ ap (λ (x : Scalar). reads_set m (registers_read (one_register args.thread x.a) (scalar_b args.thread x))) c.fields-x.ensures) c.if-left-right.false _
