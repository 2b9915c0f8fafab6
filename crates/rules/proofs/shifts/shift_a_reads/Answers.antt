-- `rules::shifts::shift_a_reads` meets its contract. Assumes nothing.
use Rattle.rules.specs.Access.{reads_of}
use Rattle.control.specs.Halves.{joined}
use Rattle.rules.proofs.shifts.shift_a_reads.Goals as goal

pub returns : goal.returns
unfolding joined reads_of
returns c = λ s w. simp (c.no_reads.ensures, c.bank_row.ensures)
