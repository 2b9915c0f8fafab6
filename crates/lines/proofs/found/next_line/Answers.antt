-- `found::next_line` meets its contract. Assumes nothing.
use Rattle.lines.proofs.Cursors.{is_output, next_silent, next_here, next_on, ahead_first, ahead_here, ahead_stop, ahead_on, ahead_end}
use Rattle.lines.specs.Cursor.{next_line}
use Rattle.job.specs.Range.{InRange}
use mathlib.Core.Path.{refl, sym, subst, ◌∙◌}
use Rattle.lines.proofs.found.next_line.Goals as goal

pub loop-f-init : goal.loop-f-init
loop-f-init c = rw (c.into_iter-f-iterator.ensures.into_iter_gives, c.each_field_from-f-items.ensures.0, c.each_field_from-f-items.ensures.1) (ahead_first c.args.job.now c.args.from.at c.args.from.line)

pub what_at-what-requires : goal.what_at-what-requires
what_at-what-requires c =
    (subst InRange (is_output _ _ (sym c.output_of.ensures ∙ c.in-Some-output_of.is)) (ahead_here c.loop-f.invariant c.in-Some.ensures.steps), rw c.line_count-count.ensures at c.if-line-count.true)

pub returns-then-line-count : goal.returns-then-line-count
unfolding next_line
returns-then-line-count c = rw c.what_at-what.ensures (ahead_stop c.loop-f.invariant c.in-Some.ensures.steps (next_here _ _ _ _ (is_output _ _ (sym c.output_of.ensures ∙ c.in-Some-output_of.is)) _ c.line_count-count.ensures c.if-line-count.true))

pub loop-f-preserved-in-Some-output_of : goal.loop-f-preserved-in-Some-output_of
loop-f-preserved-in-Some-output_of c = ahead_on c.loop-f.invariant c.in-Some.ensures.steps (next_on _ _ _ _ (is_output _ _ (sym c.output_of.ensures ∙ c.in-Some-output_of.is)) _ c.line_count-count.ensures c.if-line-count.false)

pub loop-f-preserved : goal.loop-f-preserved
loop-f-preserved c = ahead_on c.loop-f.invariant c.in-Some.ensures.steps (next_silent _ _ _ _ refl (sym c.output_of.ensures ∙ c.in_default.is))

pub returns : goal.returns
unfolding next_line
returns c = ahead_end c.loop-f.invariant c.in-None.ensures.steps.0
