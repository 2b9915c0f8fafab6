-- `rules::shifts::shift_b_reads` meets its contract. Assumes nothing.
use Rattle.rules.specs.Access.{reads_of}
use Rattle.rules.proofs.shifts.shift_b_reads.Goals as goal

pub returns : goal.returns
unfolding reads_of
returns c = λ s. simp (c.no_reads.ensures, c.shifted_b.ensures s, c.fields.ensures)
