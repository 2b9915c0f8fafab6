-- `precheck::marking::all_set` meets its contract: the tests of the span's places joined. Assumes nothing.
use mathlib.Core.Bool.{true, ◌&&◌}
use mathlib.Core.Path.{refl, ◌∙◌}
use Rattle.std.proofs.Common.{rules}
use Rattle.std.proofs.lemmas.Iterator.{YieldsList-from_slice}
use Rattle.std.proofs.lemmas.Iterator.Consumers.{fold_from_yields_List}
use Rattle.precheck.specs.Marks.{all_set}
use Rattle.precheck.proofs.Spans.{past_unset, span_joined}
use Rattle.precheck.proofs.marking.all_set.Goals as goal

pub returns-then-count-eq0 : goal.returns-then-count-eq0
unfolding all_set
returns-then-count-eq0 c = simp c.if-count-eq0.true

pub returns-then-marks-first : goal.returns-then-marks-first
unfolding all_set
returns-then-marks-first c = past_unset c.args.marks.now c.args.rows.first c.args.rows.count c.if-count-eq0.false c.if-marks-first.true

pub returns : goal.returns
unfolding all_set
returns c = fold_from_yields_List _ (λ a x. a && x) true c.fold.result c.fold.ensures.ran (YieldsList-from_slice _ c.iter.ensures.rest) (λ a x b q k. (refl, let learnt = k in search rules)) ∙ span_joined c.args.marks.now c.args.rows.first c.args.rows.count c.if-marks-first.false
