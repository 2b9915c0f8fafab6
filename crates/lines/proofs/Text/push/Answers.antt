-- `Text::push` meets its contract: a full text stays as it is. Assumes nothing.
use Rattle.lines.specs.Text.{pushed}
use borrow.Author.Tests.{lt-ltb, le-ltb}
use Rattle.lines.proofs.Text.push.Goals as goal

pub returns-then-at-lt160 : goal.returns-then-at-lt160
unfolding pushed
returns-then-at-lt160 c = simp (lt-ltb _ _ c.if-at-lt160.true)

pub returns-else-at-lt160 : goal.returns-else-at-lt160
unfolding pushed
returns-else-at-lt160 c = simp (le-ltb _ _ c.if-at-lt160.false)
