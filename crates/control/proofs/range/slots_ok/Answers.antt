-- `control::range::slots_ok` meets its contract: at the end each of the eight was tested. Assumes nothing.
use native.Mathlib.Omega.{arith}
use Rattle.control.specs.Range.{slots_ok}
use Rattle.control.proofs.Arrays.{passed_all}
use Rattle.control.proofs.range.slots_ok.Goals as goal

pub returns : goal.returns
unfolding slots_ok
returns c = passed_all c.loop-slot.invariant (omega arith)
