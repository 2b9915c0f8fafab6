-- `job::payload::values_right` meets its contract: before number i each was tested. Assumes nothing.
use Rattle.control.proofs.Arrays.{passed_none, passed_more, passed_all}
use Rattle.job.proofs.payload.values_right.Goals as goal

pub loop-i-init : goal.loop-i-init
loop-i-init c = passed_none _ _

pub loop-i-preserved : goal.loop-i-preserved
loop-i-preserved c = passed_more c.loop-i.invariant c.loop-i-test.true (rw c.read4.ensures)

pub returns : goal.returns
returns c = passed_all c.loop-i.invariant c.loop-i-test.false
