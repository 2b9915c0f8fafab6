-- `product::Reading::ordinary` meets its contract. Assumes nothing.
use mathlib.Core.Path.{sym, ◌∙◌}
use Rattle.datum.specs.Read.{slice_of}
use Rattle.datum.proofs.ReadSlices.{ordinary_datum}
use Rattle.product.specs.Product.{phase_slice}
use Rattle.product.proofs.Reading.ordinary.Goals as goal

pub returns : goal.returns
unfolding phase_slice
returns c = let by = c.args.self in
    λ known. c.slice-slice.ensures ∙ (λ t. slice_of (c.takes_low.ensures t) ((c.read_ordinary.ensures.kind ∙ ordinary_datum by.file by.format c.args.x (sym c.ordinary.ensures ∙ known)) t))
