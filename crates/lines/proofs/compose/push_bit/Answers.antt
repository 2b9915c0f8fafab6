-- `compose::push_bit` meets its contract. Assumes nothing.
use mathlib.Core.Path.{sym, ◌∙◌}
use native.Mathlib.Omega.{arith}
use Rattle.std.specs.Prelude.{Some}
use Rattle.lines.specs.Text.{word_bit, decimal, wrote, bit_text}
use Rattle.lines.proofs.Writing.{wrote_append, bit_short}
use Rattle.lines.proofs.compose.push_bit.Goals as goal

pub returns-in-Some-clause-wrote : goal.returns-in-Some-clause-wrote
unfolding bit_text
returns-in-Some-clause-wrote c = c.push_decimal.ensures ∙ rw (c.push_word.ensures, sym c.bit.ensures ∙ c.in-Some.is, c.from.ensures) (wrote_append _ word_bit (decimal _))

pub returns-in-Some-clause-short : goal.returns-in-Some-clause-short
returns-in-Some-clause-short c = rw (sym c.bit.ensures ∙ c.in-Some.is) (bit_short (Some c.in-Some.bit) (omega arith))

pub returns-in_default-clause-wrote : goal.returns-in_default-clause-wrote
unfolding bit_text wrote
returns-in_default-clause-wrote c = rw (sym c.bit.ensures ∙ c.in_default.is)

pub returns-in_default-clause-short : goal.returns-in_default-clause-short
unfolding bit_text
returns-in_default-clause-short c = rw (sym c.bit.ensures ∙ c.in_default.is) (omega arith)
