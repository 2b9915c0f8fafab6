-- `precheck::precheck` meets its contract. Assumes nothing.
use Rattle.precheck.proofs.Checking.{precheck_right, precheck_wrong, answered}
use mathlib.Core.Path.{sym, ◌∙◌}
use Rattle.precheck.proofs.precheck.Goals as goal

pub returns-in-Ok : goal.returns-in-Ok
returns-in-Ok c = answered _ _ (c.check_fields.ensures ∙ sym (precheck_right _ (sym c.find_shape.ensures.shape ∙ c.in-Ok.is)))

pub returns-in-Err : goal.returns-in-Err
returns-in-Err c = rw c.at.ensures (answered _ _ (sym (precheck_wrong _ _ (sym c.find_shape.ensures.shape ∙ c.in-Err.is))))
