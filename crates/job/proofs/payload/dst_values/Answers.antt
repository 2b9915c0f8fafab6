-- `job::payload::dst_values` meets its contract, width by width. Assumes nothing.
use mathlib.Core.Path.{sym, ap, ◌∙◌}
use Rattle.cells.specs.declared.Width.{Width}
use Rattle.job.specs.Kinds.{dst_values}
use Rattle.job.proofs.payload.dst_values.Goals as goal

pub returns-in-Bits16 : goal.returns-in-Bits16
returns-in-Bits16 c = let a = c.args in
    c.values_right.ensures ∙ sym (ap (λ (w : Width). dst_values w a.p.now a.n) c.in-Bits16.is)
