-- `Text::push_decimal` meets its contract: the digits before the last, then the last. Assumes nothing.
use mathlib.Core.Path.{◌∙◌}
use Rattle.lines.proofs.Writing.{wrote_one, wrote_last, decimal_one, decimal_more}
use Rattle.lines.proofs.Text.+push_decimal.Goals as goal

pub returns-then-n-lt10 : goal.returns-then-n-lt10
returns-then-n-lt10 t c = c.push.ensures ∙ rw (decimal_one _ c.if-n-lt10.true) (wrote_one _ _)

pub returns-else-n-lt10 : goal.returns-else-n-lt10
returns-else-n-lt10 t c = c.push-else-n-lt10.ensures ∙ rw (c.push_decimal.ensures, decimal_more _ c.if-n-lt10.false) (wrote_last _ _ _)
