-- `step::multiply::multiply` meets its contract. Assumes nothing.
use mathlib.Core.Path.{◌∙◌}
use Rattle.step.proofs.multiply.multiply.Goals as goal

pub returns : goal.returns
returns c = λ s. c.multiply.ensures.left ∙ simp (c.product_of.ensures s)
