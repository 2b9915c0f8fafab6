-- `rules::zero_src::filled_in` meets its contract. Assumes nothing.
use Rattle.rules.proofs.zero_src.filled_in.Goals as goal

pub returns-then-z : goal.returns-then-z
returns-then-z c = simp c.if-z.true

pub returns : goal.returns
returns c = simp (c.if-z.false, c.bank_span.ensures)
