-- `rules::instructions::clear_by` meets its contract. Assumes nothing.
use Rattle.rules.proofs.instructions.clear_by.Goals as goal

pub returns-in-Multiply : goal.returns-in-Multiply
returns-in-Multiply c = simp (c.fields.ensures, c.in-Multiply.is)

pub returns-in-Legacy : goal.returns-in-Legacy
returns-in-Legacy c = simp (c.fields-in-Legacy.ensures, c.in-Legacy.is)

pub returns-in-SetCounters : goal.returns-in-SetCounters
returns-in-SetCounters c = simp (c.fields-in-SetCounters.ensures, c.in-SetCounters.is)
