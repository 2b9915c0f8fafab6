-- `lines::line_after` meets its contract. Assumes nothing.
use mathlib.Core.Path.{sym, ◌∙◌}
use Rattle.lines.proofs.Giving.{told_line, told_last}
use Rattle.lines.proofs.line_after.Goals as goal

pub returns-in_err-found : goal.returns-in_err-found
returns-in_err-found c = told_last _ _ _ _ _ c.from_residual.ensures (sym c.next_line.ensures ∙ c.in_err-found.was)

pub returns : goal.returns
returns c = told_line _ _ _ _ _ _ (sym c.next_line.ensures ∙ c.in_ok-found.was) c.line_text.ensures.whole c.line_text.ensures.first
