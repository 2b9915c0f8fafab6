-- `Text::new` meets its contract. Assumes nothing.
use mathlib.Core.Path.{refl}
use Rattle.lines.specs.Text.{empty_text}
use Rattle.lines.proofs.Text.new.Goals as goal

pub returns : goal.returns
unfolding empty_text
returns c = refl
