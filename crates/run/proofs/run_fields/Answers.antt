-- `run::run_fields` meets its contract. Assumes nothing.
use Rattle.run.proofs.Performs.{written_by}
use Rattle.run.proofs.Running.{running_first, running_end, turn_on, issue_on}
use Rattle.run.specs.Perform.{performed}
use Rattle.walk.specs.FieldRecord.{field_control}
use Rattle.rules.proofs.Reading.{acting_is}
use Rattle.job.proofs.Halves.{settled_on, start_on}
use Rattle.job.proofs.Shaped.{kind_is}
use Rattle.job.specs.Settings.{choices_in}
use Rattle.cells.proofs.Sizes.{sizes}
use native.Mathlib.Omega.{arith}
use mathlib.Core.Path.{refl, ◌∙◌}
use Rattle.run.proofs.run_fields.Goals as goal

pub loop-f-init : goal.loop-f-init
loop-f-init c = running_first (rw (c.into_iter-f-iterator.ensures.into_iter_gives, c.each_field-f-items.ensures.0, c.each_field-f-items.ensures.1) refl) (sizes _ c.requires.0) c.requires.1 (start_on c.start_core-k.ensures)

pub loop-f-preserved-in-Ok-Settings : goal.loop-f-preserved-in-Ok-Settings
unfolding field_control performed
loop-f-preserved-in-Ok-Settings c = turn_on c.loop-f.invariant c.in-Some.ensures.steps (kind_is c.in-Ok-Settings.is (rw c.in-Ok-Settings.is at c.in-Ok-Settings.field-0-is)) (settled_on c.loop-f.k c.loop-f.fixed _ c.settle-k.ensures c.settings_bytes-fixed.ensures c.payload_at-payload.ensures) refl (omega arith)

pub loop-f-preserved-in-Ok-Issue : goal.loop-f-preserved-in-Ok-Issue
loop-f-preserved-in-Ok-Issue c = let h = choices_in c.loop-f.fixed in
    issue_on c.loop-f.invariant c.in-Some.ensures.steps (kind_is c.in-Ok-Issue.is (rw c.in-Ok-Issue.is at c.in-Ok-Issue.field-0-is)) (c.acting_operands-operands.ensures.operands ∙ acting_is _ _ c.read_word.ensures.operands) (c.act_under.ensures h) c.advance.ensures

pub loop-f-preserved-in-Ok-HandOver : goal.loop-f-preserved-in-Ok-HandOver
unfolding field_control performed
loop-f-preserved-in-Ok-HandOver c = turn_on c.loop-f.invariant c.in-Some.ensures.steps (kind_is c.in-Ok-HandOver.is (rw c.in-Ok-HandOver.is at c.in-Ok-HandOver.field-0-is)) (c.hand_over-k.ensures (choices_in c.loop-f.fixed)) refl (omega arith)

pub loop-f-preserved-in-Ok-Writes : goal.loop-f-preserved-in-Ok-Writes
unfolding field_control performed
loop-f-preserved-in-Ok-Writes c = turn_on c.loop-f.invariant c.in-Some.ensures.steps (kind_is c.in-Ok-Writes.is (rw c.in-Ok-Writes.is at c.in-Ok-Writes.field-0-is)) refl (written_by _ _ _ (c.write.ensures (choices_in c.loop-f.fixed)) c.payload_at-payload-in-Ok-Writes.ensures) (omega arith)

pub loop-f-preserved-in-Ok-Prints : goal.loop-f-preserved-in-Ok-Prints
unfolding field_control performed
loop-f-preserved-in-Ok-Prints c = turn_on c.loop-f.invariant c.in-Some.ensures.steps (kind_is c.in-Ok-Prints.is (rw c.in-Ok-Prints.is at c.in-Ok-Prints.field-0-is)) refl refl (omega arith)

pub loop-f-preserved : goal.loop-f-preserved
unfolding field_control performed
loop-f-preserved c = turn_on c.loop-f.invariant c.in-Some.ensures.steps c.in-Err.is refl refl (omega arith)

pub returns : goal.returns
returns c = running_end c.loop-f.invariant c.in-None.ensures.steps.0
