-- `rules::instructions::own_after` meets its contract. Assumes nothing.
use Rattle.rules.proofs.instructions.own_after.Goals as goal

pub returns-in-SetCounters : goal.returns-in-SetCounters
returns-in-SetCounters c = λ h. simp (c.set_counters.ensures h, c.fields-s.ensures, c.in-SetCounters.is)

pub returns-in-AddCounters : goal.returns-in-AddCounters
returns-in-AddCounters c = λ h. simp (c.add_counters.ensures h, c.fields-s-in-AddCounters.ensures, c.in-AddCounters.is)
