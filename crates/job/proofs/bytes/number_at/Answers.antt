-- `job::bytes::number_at` meets its contract: inside, and its four bytes read one by one. Assumes nothing.
use Rattle.job.proofs.Numbers.{past, four}
use mathlib.Core.Path.{sym}
use Rattle.job.proofs.bytes.number_at.Goals as goal

pub returns-then-n-at : goal.returns-then-n-at
returns-then-n-at c = sym (past c.args.p.now c.args.at c.if-n-at.true)

pub returns : goal.returns
returns c = four c.args.p.now c.args.at _ _ _ _ c.byte_at.ensures.0 c.byte_at-2.ensures.0 c.byte_at-3.ensures.0 c.byte_at-4.ensures.0
