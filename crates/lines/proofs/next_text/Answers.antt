-- `lines::next_text` meets its contract. Assumes nothing.
use Rattle.lines.specs.Text.{finished_text}
use Rattle.lines.proofs.Giving.{told_later, told_finished, told_refused, told_no_more}
use Rattle.lines.proofs.next_text.Goals as goal

pub returns-then-from : goal.returns-then-from
returns-then-from c = told_later _ _ _ _ _ _ c.in-Ok.is c.if-from.true _ c.line_after.ensures

pub returns-then-from-2 : goal.returns-then-from-2
returns-then-from-2 c = told_no_more _ _ _ _ _ _ _ c.in-Err.is c.if-from-2.true

pub returns-else-from : goal.returns-else-from
unfolding finished_text
returns-else-from c = told_finished _ _ _ _ _ _ c.in-Ok.is c.if-from.false _ c.count_text.ensures.whole c.count_text.ensures.first _ c.answer.ensures

pub returns-else-from-2 : goal.returns-else-from-2
returns-else-from-2 c = told_refused _ _ _ _ _ _ _ c.in-Err.is c.if-from-2.false _ c.refused_text.ensures.whole c.refused_text.ensures.first _ c.answer-in-Err.ensures
