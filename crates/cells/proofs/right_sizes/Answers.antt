-- `cells::right_sizes` meets its contract. Assumes nothing.
use mathlib.Core.Path.{refl}
use Rattle.cells.specs.State.{sized}
use Rattle.cells.proofs.right_sizes.Goals as goal

pub returns : goal.returns
unfolding sized
returns c = refl
