-- `found::next_line` meets its contract: what the fields that are left give next is what all of them do. Assumes nothing.
use Rattle.job.specs.Fields.{fields_from}
use Rattle.lines.proofs.Cursors.{Ahead}
use Rattle.lines.proofs.found.next_line.Given as goal

abbrev pub invariant-loop-f : goal.invariant-loop-f
invariant-loop-f l = Ahead l.job l.fn.from.at l.fn.from.line (fields_from l.f-iterator.job.now l.f-iterator.at) l.line
