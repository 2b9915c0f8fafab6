-- `step::scalar::shift` meets its contract. Assumes nothing.
use borrow.Author.Tests.{eq-eqb, ne_eqb}
use Rattle.step.proofs.scalar.shift.Goals as goal

pub returns-then-mode-eq0 : goal.returns-then-mode-eq0
returns-then-mode-eq0 c = simp (eq-eqb _ _ c.if-mode-eq0.true)

pub returns : goal.returns
returns c = simp (ne_eqb _ _ c.if-mode-eq0.false)
