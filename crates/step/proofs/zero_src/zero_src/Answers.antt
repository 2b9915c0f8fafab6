-- `step::zero_src::zero_src` meets its contract. Assumes nothing.
-- any address slots
use mathlib.Core.Path.{◌∙◌}
use Rattle.cells.specs.Places.{over_at}
use Rattle.control.specs.Halves.{joined}
use Rattle.rules.specs.ZeroSrc.{filled_a, filled_b}
use Rattle.step.proofs.zero_src.zero_src.Goals as goal

pub returns : goal.returns
unfolding over_at joined filled_a filled_b
returns c = λ s. (c.fill_rows.ensures ∙ simp (c.filled_if-rows_a.ensures, c.fill_a.ensures), c.fill_rows-2.ensures ∙ simp c.filled_if-rows_b.ensures)
