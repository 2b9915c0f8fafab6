-- `Text::push_value` meets its contract: a space and the digits. Assumes nothing.
use Rattle.lines.proofs.Writing.{value_one}
use mathlib.Core.Path.{◌∙◌}
use Rattle.lines.proofs.Text.push_value.Goals as goal

pub returns : goal.returns
returns c = c.push_hex.ensures ∙ rw c.push.ensures (value_one _ _ _)
