-- `job::payload::read_issue` meets its contract. Assumes nothing.
use borrow.Author.Tests.{ne_eqb, eq-eqb, lt-ltb, le-ltb}
use Rattle.job.specs.Kinds.{issue}
use Rattle.job.proofs.payload.read_issue.Goals as goal

pub returns-then-p-ne5 : goal.returns-then-p-ne5
unfolding issue
returns-then-p-ne5 c = simp (ne_eqb _ _ c.if-p-ne5.true)

pub returns-then-p-lt-THREADS : goal.returns-then-p-lt-THREADS
unfolding issue
returns-then-p-lt-THREADS c = simp (eq-eqb _ _ c.if-p-ne5.false, lt-ltb _ _ c.if-p-lt-THREADS.true, c.read4.ensures)

pub returns : goal.returns
unfolding issue
returns c = simp (eq-eqb _ _ c.if-p-ne5.false, le-ltb _ _ c.if-p-lt-THREADS.false)
