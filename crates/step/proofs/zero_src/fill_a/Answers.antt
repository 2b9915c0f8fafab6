-- `step::zero_src::fill_a` meets its contract. Assumes nothing.
use Rattle.step.proofs.zero_src.fill_a.Goals as goal

pub returns-then-z : goal.returns-then-z
returns-then-z c = simp c.if-z.true

pub returns : goal.returns
returns c = simp c.if-z.false
