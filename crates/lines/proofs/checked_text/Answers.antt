-- `lines::checked_text` meets its contract. Assumes nothing.
use Rattle.lines.specs.Text.{passed_text}
use Rattle.lines.specs.Printed.{checked_text}
use Rattle.lines.proofs.checked_text.Goals as goal

pub returns-in-Ok : goal.returns-in-Ok
unfolding checked_text passed_text
returns-in-Ok c = rw c.in-Ok.is c.count_text.ensures

pub returns-in-Err : goal.returns-in-Err
unfolding checked_text
returns-in-Err c = rw c.in-Err.is c.refused_text.ensures
