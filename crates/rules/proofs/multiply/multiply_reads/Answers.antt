-- `rules::multiply::multiply_reads` meets its contract. Assumes nothing.
use Rattle.rules.proofs.ByCore.{row_a_by, row_b_by, row_dst_by}
use Rattle.rules.specs.Access.{reads_of}
use Rattle.control.specs.Halves.{joined}
use mathlib.Core.Path.{◌∙◌}
use Rattle.rules.proofs.multiply.multiply_reads.Goals as goal

pub returns : goal.returns
unfolding joined reads_of
returns c = λ s. let a = c.args in let e = c.own_at-x.ensures in
    simp (c.no_reads.ensures, c.row_dst.ensures ∙ row_dst_by a.k s a.thread e c.fields-m.result.height c.fields-m.result.dst, c.bank_row-2.ensures, c.row_b.ensures ∙ row_b_by a.k s a.thread e, c.bank_row.ensures, c.row_a.ensures ∙ row_a_by a.k s a.thread e, c.height_rows-count.ensures, c.fields-m.ensures)
