-- `job::settings::slots_right` meets its contract: before place s each slot was tested. Assumes nothing.
use Rattle.control.proofs.Arrays.{passed_none, passed_more, passed_all}
use Rattle.job.proofs.settings.slots_right.Goals as goal

pub loop-s-init : goal.loop-s-init
loop-s-init c = passed_none _ _

pub loop-s-preserved : goal.loop-s-preserved
loop-s-preserved c = passed_more c.loop-s.invariant c.loop-s-test.true (rw c.slot_ok-right.ensures (rw c.read_slot.ensures))

pub returns : goal.returns
returns c = passed_all c.loop-s.invariant c.loop-s-test.false
