-- `precheck::marking::set_one` meets its contract: inside, or past the end. Assumes nothing.
use mathlib.Core.Bool.{true, false}
use Rattle.cells.proofs.Cells.{set_one, one_past}
use Rattle.precheck.proofs.marking.set_one.Goals as goal

pub returns-then-i-marks : goal.returns-then-i-marks
returns-then-i-marks c = set_one false true c.args.marks.now c.args.place c.if-i-marks.true

pub returns-else-i-marks : goal.returns-else-i-marks
returns-else-i-marks c = one_past false (λ i. true) c.args.marks.now c.args.place c.if-i-marks.false
