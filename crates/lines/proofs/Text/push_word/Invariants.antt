-- What is left of the word, written from here on, gives the whole.
use mathlib.Core.Path.{◌≡◌}
use lib.ListN.{drop}
use Rattle.lines.specs.Text.{wrote}
use Rattle.lines.proofs.Text.push_word.Given as goal

abbrev pub invariant-loop-byte : goal.invariant-loop-byte
invariant-loop-byte l = wrote l.self (drop l.byte-index l.word) ≡ wrote l.initial.self l.word
