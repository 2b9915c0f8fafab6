-- `compose::count_text` meets its contract: a word and a number. Assumes nothing.
use Rattle.lines.proofs.Writing.{number_text}
use native.Mathlib.Omega.{arith}
use mathlib.Core.Path.{◌∙◌}
use Rattle.lines.proofs.compose.count_text.Goals as goal

pub returns : goal.returns
returns c = number_text _ _ (omega arith) c.requires _
    (c.push.ensures ∙ rw (c.push_decimal.ensures, c.push_word.ensures, c.new-t.ensures))
