-- `Text::push_word` meets its contract: what is left of the word written from here on gives the whole. Assumes nothing.
use mathlib.Core.Path.{sym, ap, ◌∙◌}
use lib.ListN.{drop_of_length-le}
use Rattle.lines.specs.Text.{wrote}
use Rattle.lines.proofs.Writing.{word_on}
use Rattle.lines.proofs.Text.push_word.Goals as goal

pub loop-byte-preserved : goal.loop-byte-preserved
loop-byte-preserved c = rw c.push.ensures (sym (word_on _ _ _ c.loop-byte-test.true)) ∙ c.loop-byte.invariant

pub returns : goal.returns
unfolding wrote
returns c = sym (ap (wrote c.loop-byte.self) (drop_of_length-le _ c.loop-byte-test.false)) ∙ c.loop-byte.invariant
