-- `product::Pattern::pack` meets its contract, part by part. Assumes nothing.
use mathlib.Core.Path.{sym, ap, ◌∙◌}
use native.Mathlib.Omega.{arith}
use lib.Ieee.{binary32, of_bits}
use Rattle.cells.specs.declared.Part.{Part}
use Rattle.cells.specs.Parts.{width_in}
use Rattle.product.specs.Stored.{stored_as}
use Rattle.product.proofs.Floats.{pattern_back}
use Rattle.product.proofs.Pattern.pack.Goals as goal

pub returns-in-Whole : goal.returns-in-Whole
returns-in-Whole c = let b = c.args.self.bits in
    pattern_back b (omega arith) (omega arith) ∙ sym (ap (λ (p : Part). stored_as (width_in p) (of_bits binary32 b)) c.in-Whole.is)
