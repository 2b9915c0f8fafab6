-- `product::Reading::slice` meets its contract. Assumes nothing.
use mathlib.Core.Path.{◌∙◌}
use Rattle.datum.specs.Read.{slice_of}
use Rattle.product.specs.Product.{phase_slice}
use Rattle.product.proofs.Reading.slice.Goals as goal

pub returns : goal.returns
unfolding phase_slice
returns c = c.slice.ensures ∙ (λ t. slice_of (c.takes_low.ensures t) (c.read.ensures.kind t))
