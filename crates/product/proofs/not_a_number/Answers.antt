-- `product::not_a_number` meets its contract, part by part. Assumes nothing.
use mathlib.Core.Path.{sym, ap}
use lib.Ieee.{nan, is_nan}
use Rattle.cells.specs.declared.Part.{Part}
use Rattle.cells.specs.Parts.{width_in}
use Rattle.product.specs.Stored.{pattern_of, narrowed, stored_as}
use Rattle.product.proofs.not_a_number.Goals as goal

pub returns-in-Whole : goal.returns-in-Whole
unfolding pattern_of is_nan
returns-in-Whole c = sym (ap (λ (p : Part). stored_as (width_in p) nan) c.in-Whole.is)

pub returns-in-Low : goal.returns-in-Low
unfolding narrowed
returns-in-Low c = sym (ap (λ (p : Part). stored_as (width_in p) nan) c.in-Low.is)

pub returns-in-High : goal.returns-in-High
unfolding narrowed
returns-in-High c = sym (ap (λ (p : Part). stored_as (width_in p) nan) c.in-High.is)
