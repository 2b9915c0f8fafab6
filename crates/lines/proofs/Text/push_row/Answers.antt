-- `Text::push_row` meets its contract: the columns from here on written give the whole row. Assumes nothing.
use Rattle.lines.proofs.Writing.{columns_on, columns_done}
use mathlib.Core.Path.{sym, ◌∙◌}
use Rattle.lines.proofs.Text.push_row.Goals as goal

pub loop-k-init : goal.loop-k-init
loop-k-init c = rw c.digits-digits.ensures

pub loop-k-preserved : goal.loop-k-preserved
loop-k-preserved c = rw (c.push_value.ensures, c.read.ensures) (sym (columns_on _ _ _ _ _ _ c.loop-k-test.true)) ∙ c.loop-k.invariant

pub returns : goal.returns
returns c = sym (columns_done _ _ _ _ _ _ c.loop-k-test.false) ∙ c.loop-k.invariant
