-- `rules::shifts::shifted_a` meets its contract. Assumes nothing.
use Rattle.rules.specs.Shifts.{shifted_a}
use Rattle.control.specs.Halves.{joined}
use Rattle.rules.proofs.shifts.shifted_a.Goals as goal

pub returns : goal.returns
unfolding joined shifted_a
returns c = λ s. simp c.bank_row.ensures
