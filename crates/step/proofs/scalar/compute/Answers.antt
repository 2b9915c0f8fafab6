-- `step::scalar::compute` meets its contract. Assumes nothing.
use Rattle.step.proofs.scalar.compute.Goals as goal

pub returns-in-Bitwise : goal.returns-in-Bitwise
returns-in-Bitwise c = simp (c.bitwise.ensures, c.in-Bitwise.is)

pub returns-in-Shift : goal.returns-in-Shift
returns-in-Shift c = simp (c.shift.ensures, c.in-Shift.is)

pub returns-in-Compare : goal.returns-in-Compare
returns-in-Compare c = simp (c.compare.ensures, c.in-Compare.is)
