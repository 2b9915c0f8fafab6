-- `precheck::check_from` meets its contract. Assumes nothing.
use mathlib.Core.Path.{refl, sym, ◌∙◌}
use native.Mathlib.Omega.{arith}
use Rattle.rules.specs.Rules.{lowest}
use Rattle.walk.specs.FieldRecord.{field_control}
use Rattle.job.specs.Settings.{choices_in}
use Rattle.job.proofs.Halves.{settled_on, start_on}
use Rattle.job.proofs.Shaped.{kind_is}
use Rattle.precheck.specs.Marks.{unset_but}
use Rattle.precheck.specs.Judging.{field_rules}
use Rattle.precheck.specs.Marking.{field_marks}
use Rattle.precheck.proofs.Judged.{unread, rules_by}
use Rattle.precheck.proofs.Checking.{checking_first, checking_end, turn_stop, turn_on, issue_on}
use Rattle.precheck.proofs.check_from.Goals as goal

pub loop-f-init : goal.loop-f-init
unfolding unset_but
loop-f-init c = checking_first (rw (c.into_iter-f-iterator.ensures.into_iter_gives, c.each_field-f-items.ensures.0, c.each_field-f-items.ensures.1) refl) (start_on c.start_core-k.ensures) refl

pub returns-in-Err-read_word : goal.returns-in-Err-read_word
returns-in-Err-read_word c = turn_stop c.loop-f.invariant c.in-Some.ensures.steps (kind_is c.in-Ok-Issue.is (rw c.in-Ok-Issue.is at c.in-Ok-Issue.field-0-is)) (unread _ _ _ _ c.read_word.ensures.operands c.in-Err-read_word.is) c.at.ensures

pub returns-in-Err-checked : goal.returns-in-Err-checked
returns-in-Err-checked c = turn_stop c.loop-f.invariant c.in-Some.ensures.steps (kind_is c.in-Ok-Issue.is (rw c.in-Ok-Issue.is at c.in-Ok-Issue.field-0-is)) (rules_by _ _ _ _ c.read_word.ensures.operands c.in-Ok.is (c.check_operands-checked.ensures (choices_in c.loop-f.fixed)).verdict ∙ c.in-Err-checked.is) c.at-in-Err-checked.ensures

pub returns-in-Err-judge_bank : goal.returns-in-Err-judge_bank
unfolding field_rules
returns-in-Err-judge_bank c = turn_stop c.loop-f.invariant c.in-Some.ensures.steps (kind_is c.in-Ok-HandOver.is (rw c.in-Ok-HandOver.is at c.in-Ok-HandOver.field-0-is)) (sym (c.judge_bank.ensures (choices_in c.loop-f.fixed)) ∙ c.in-Err-judge_bank.is) c.at-in-Err-judge_bank.ensures

pub returns-in-Err-checked-2 : goal.returns-in-Err-checked-2
unfolding field_rules
returns-in-Err-checked-2 c = turn_stop c.loop-f.invariant c.in-Some.ensures.steps (kind_is c.in-Ok-Writes.is (rw c.in-Ok-Writes.is at c.in-Ok-Writes.field-0-is)) (sym (c.check_write-checked.ensures (choices_in c.loop-f.fixed)).0 ∙ c.in-Err-checked-2.is) c.at-in-Err-checked-2.ensures

pub returns-in-Err-judge_output : goal.returns-in-Err-judge_output
unfolding field_rules
returns-in-Err-judge_output c = turn_stop c.loop-f.invariant c.in-Some.ensures.steps (kind_is c.in-Ok-Prints.is (rw c.in-Ok-Prints.is at c.in-Ok-Prints.field-0-is)) (sym (c.judge_output.ensures c.loop-f.srca c.loop-f.srcb) ∙ c.in-Err-judge_output.is) c.at-in-Err-judge_output.ensures

pub loop-f-preserved-in-Ok-Settings : goal.loop-f-preserved-in-Ok-Settings
unfolding field_rules field_control field_marks lowest
loop-f-preserved-in-Ok-Settings c = turn_on c.loop-f.invariant c.in-Some.ensures.steps (kind_is c.in-Ok-Settings.is (rw c.in-Ok-Settings.is at c.in-Ok-Settings.field-0-is)) refl (settled_on _ _ _ c.settle-settled.ensures c.settings_bytes-fixed.ensures c.payload_at-p.ensures) refl refl (omega arith)

pub loop-f-preserved-in-Ok-Issue : goal.loop-f-preserved-in-Ok-Issue
loop-f-preserved-in-Ok-Issue c = issue_on c.loop-f.invariant c.in-Some.ensures.steps (kind_is c.in-Ok-Issue.is (rw c.in-Ok-Issue.is at c.in-Ok-Issue.field-0-is))
    c.read_word.ensures.operands c.in-Ok.is
    (c.check_operands-checked.ensures (choices_in c.loop-f.fixed)) c.in_default.is c.advance.ensures

pub loop-f-preserved-in-Ok-HandOver : goal.loop-f-preserved-in-Ok-HandOver
unfolding field_rules field_control field_marks lowest
loop-f-preserved-in-Ok-HandOver c = turn_on c.loop-f.invariant c.in-Some.ensures.steps (kind_is c.in-Ok-HandOver.is (rw c.in-Ok-HandOver.is at c.in-Ok-HandOver.field-0-is)) (sym (c.judge_bank.ensures (choices_in c.loop-f.fixed)) ∙ c.in_default-judge_bank.is) (c.hand_over-k.ensures (choices_in c.loop-f.fixed)) refl refl (omega arith)

pub loop-f-preserved-in_default-checked : goal.loop-f-preserved-in_default-checked
unfolding field_rules field_control field_marks lowest
loop-f-preserved-in_default-checked c = let written = c.check_write-checked.ensures (choices_in c.loop-f.fixed) in
    turn_on c.loop-f.invariant c.in-Some.ensures.steps (kind_is c.in-Ok-Writes.is (rw c.in-Ok-Writes.is at c.in-Ok-Writes.field-0-is)) (sym written.0 ∙ c.in_default-checked.is) refl written.1 (c.check_write-checked.auto.dst) (omega arith)

pub loop-f-preserved-in_default-judge_output : goal.loop-f-preserved-in_default-judge_output
unfolding field_rules field_control field_marks lowest
loop-f-preserved-in_default-judge_output c = turn_on c.loop-f.invariant c.in-Some.ensures.steps (kind_is c.in-Ok-Prints.is (rw c.in-Ok-Prints.is at c.in-Ok-Prints.field-0-is)) (sym (c.judge_output.ensures c.loop-f.srca c.loop-f.srcb) ∙ c.in_default-judge_output.is) refl refl refl (omega arith)

pub loop-f-preserved : goal.loop-f-preserved
unfolding field_rules field_control field_marks lowest
loop-f-preserved c = turn_on c.loop-f.invariant c.in-Some.ensures.steps c.in-Err.is refl refl refl refl (omega arith)

pub returns : goal.returns
returns c = checking_end c.loop-f.invariant c.in-None.ensures.steps.0
