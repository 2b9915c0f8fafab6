-- `datum::slice` meets its contract: one `returns` for each kind. Assumes nothing.
use mathlib.Core.Path.{sym, ap, ◌∙◌}
use lib.Ieee.{of_bits, neg, div, inf}
use Rattle.datum.specs.Read.{slice_of}
use Rattle.datum.proofs.slice.Goals as goal

pub returns-then-negative : goal.returns-then-negative
unfolding of_bits neg div
returns-then-negative c = let a = c.args in
    sym (ap (slice_of a.low) c.in-Infinity.is ∙ ap inf c.if-negative.true)

pub returns-else-negative : goal.returns-else-negative
unfolding of_bits div
returns-else-negative c = let a = c.args in
    sym (ap (slice_of a.low) c.in-Infinity.is ∙ ap inf c.if-negative.false)

pub returns-in-NotANumber : goal.returns-in-NotANumber
unfolding of_bits div
returns-in-NotANumber c = sym (ap (slice_of c.args.low) c.in-NotANumber.is)
