-- `step::multiply::product_of` meets its contract. Assumes nothing.
use Rattle.step.specs.Multiply.{product_of}
use Rattle.rules.proofs.ByCore.{row_a_by, row_b_by, row_dst_by, phase_by}
use Rattle.control.specs.Halves.{joined}
use mathlib.Core.Path.{◌∙◌}
use Rattle.step.proofs.multiply.product_of.Goals as goal

pub returns : goal.returns
unfolding joined product_of
returns c = λ s. let a = c.args in let e = c.own_at-x.ensures in
    simp (c.height_rows.ensures, c.row_dst.ensures ∙ row_dst_by a.k s a.thread e a.m.height a.m.dst, c.bank_row-2.ensures, c.row_b.ensures ∙ row_b_by a.k s a.thread e, c.bank_row.ensures, c.row_a.ensures ∙ row_a_by a.k s a.thread e, c.phase_of.ensures ∙ phase_by a.k s a.thread e, c.width_of-width.ensures)
