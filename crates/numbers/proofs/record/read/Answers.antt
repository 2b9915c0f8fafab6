-- `numbers::record::read` meets its contract: the record that was read, or one out of range. Assumes nothing.
use mathlib.Core.Path.{sym, ◌∙◌}
use Rattle.numbers.proofs.Stands.{record_some, record_none}
use Rattle.numbers.proofs.record.read.Goals as goal

pub returns-in-Some : goal.returns-in-Some
returns-in-Some c = record_some c.args.n.now (sym c.in-Some.is ∙ c.read_record.ensures)

pub returns-in-None : goal.returns-in-None
returns-in-None c = c.no_record.ensures ∙ record_none c.args.n.now (sym c.in-None.is ∙ c.read_record.ensures)
