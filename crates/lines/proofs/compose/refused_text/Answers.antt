-- `compose::refused_text` meets its contract. Assumes nothing.
use mathlib.Core.Path.{◌∙◌}
use native.Mathlib.Omega.{arith}
use Rattle.word.specs.Refusal.{bit_of}
use Rattle.lines.specs.Text.{word_refused, word_at, bit_text, refused_text}
use Rattle.lines.proofs.Writing.{numbers_text}
use Rattle.lines.proofs.compose.refused_text.Goals as goal

pub returns : goal.returns
unfolding refused_text
returns c =
    rw (← c.number.ensures)
    (numbers_text word_refused _ (omega arith) (omega arith) word_at _ (omega arith) (omega arith) (bit_text (bit_of c.args.refused.refusal)) c.push_bit.ensures.short _
    (c.push.ensures ∙ rw (c.push_bit.ensures.wrote, c.push_decimal-2.ensures, c.push_word-2.ensures, c.push_decimal.ensures, c.push_word.ensures, c.new-t.ensures, c.from.ensures)))
