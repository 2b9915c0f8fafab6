-- `rules::instructions::slot_number` meets its contract. Assumes nothing.
use Rattle.rules.proofs.instructions.slot_number.Goals as goal

pub returns-in-Multiply : goal.returns-in-Multiply
returns-in-Multiply c = simp (c.fields.ensures, c.in-Multiply.is)

pub returns-in-Legacy : goal.returns-in-Legacy
returns-in-Legacy c = simp (c.fields-in-Legacy.ensures, c.in-Legacy.is)

pub returns-in-ShiftB : goal.returns-in-ShiftB
returns-in-ShiftB c = simp (c.fields-in-ShiftB.ensures, c.in-ShiftB.is)
