-- `word::decode::operation_of` meets its contract. Assumes nothing.
use borrow.Author.Tests.{ne_eqb}
use Rattle.word.proofs.decode.operation_of.Goals as goal

pub returns-then-w-eq91 : goal.returns-then-w-eq91
returns-then-w-eq91 c = simp c.if-w-eq91.true

pub returns-then-w-eq92 : goal.returns-then-w-eq92
returns-then-w-eq92 c = simp c.if-w-eq92.true

pub returns : goal.returns
returns c = simp ((ne_eqb _ _ c.if-w-eq91.false), (ne_eqb _ _ c.if-w-eq92.false))
