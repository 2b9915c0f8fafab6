-- `rules::vocabulary::both_owned` meets its contract. Assumes nothing.
use Rattle.control.specs.Halves.{joined}
use Rattle.rules.proofs.vocabulary.both_owned.Goals as goal

pub returns : goal.returns
unfolding joined
returns c = λ s. simp (c.matrix_owns-2.ensures, c.matrix_owns.ensures)
