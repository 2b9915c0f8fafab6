-- `word::decode::height_of` meets its contract. Assumes nothing.
use borrow.Author.Tests.{ne_eqb}
use Rattle.word.proofs.decode.height_of.Goals as goal

pub returns-then-w-eq52 : goal.returns-then-w-eq52
returns-then-w-eq52 c = simp c.if-w-eq52.true

pub returns : goal.returns
returns c = simp (ne_eqb _ _ c.if-w-eq52.false)
