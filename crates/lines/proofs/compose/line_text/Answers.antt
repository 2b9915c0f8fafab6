-- `compose::line_text` meets its contract: a word, numbers and values, one after the other. Assumes nothing.
use Rattle.lines.proofs.Writing.{row_text, value_text}
use Rattle.lines.specs.Text.{line_of}
use Rattle.cells.specs.Places.{get_at}
use native.Mathlib.Omega.{arith}
use mathlib.Core.Path.{◌∙◌}
use Rattle.lines.proofs.compose.line_text.Goals as goal

pub returns-in-Row : goal.returns-in-Row
unfolding line_of
returns-in-Row c = rw c.in-Row.is (row_text _ _ _ _ (omega arith)
    (c.push.ensures ∙ rw (c.push_row.ensures, c.push_decimal.ensures, c.push_word.ensures, c.new-t.ensures)))

pub returns-in-Register : goal.returns-in-Register
unfolding line_of get_at
returns-in-Register c = rw c.in-Register.is (value_text _ _ _ _ (omega arith) (omega arith)
    (c.push-in-Register-2.ensures ∙ rw (c.push_value.ensures, c.read.ensures, c.register_at-at.ensures, c.push_decimal-in-Register-2.ensures, c.push-in-Register.ensures, c.push_decimal-in-Register.ensures, c.push_word-in-Register.ensures, c.new-t-in-Register.ensures)))
