-- `run::run` meets its contract. Assumes nothing.
use Rattle.word.proofs.Passing.{passed_on}
use Rattle.run.proofs.Running.{run_unsized, run_refused, run_passed, answered}
use mathlib.Core.Path.{refl, sym, ◌∙◌}
use Rattle.run.proofs.run.Goals as goal

pub returns-then-not-right_sizes : goal.returns-then-not-right_sizes
returns-then-not-right_sizes c = rw c.at.ensures (answered _ _ _ _ _ (run_unsized _ _ (sym c.right_sizes.ensures ∙ c.if-not-right_sizes.true)) refl refl)

pub returns-in_err-precheck : goal.returns-in_err-precheck
returns-in_err-precheck c = rw (passed_on c.from_residual.result _ c.from_residual.ensures.1)
    (answered _ _ _ _ _ (run_refused _ _ (sym c.right_sizes.ensures ∙ c.if-not-right_sizes.false) _ _ (sym c.precheck.ensures.0 ∙ c.in_err-precheck.was)) refl refl)

pub returns : goal.returns
returns c = answered _ _ _ _ _ (run_passed _ _ (sym c.right_sizes.ensures ∙ c.if-not-right_sizes.false) _ (sym c.precheck.ensures.0 ∙ c.in_ok-precheck.was)) c.run_fields.ensures.0 c.run_fields.ensures.1
