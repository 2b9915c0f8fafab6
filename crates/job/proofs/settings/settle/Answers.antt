-- `job::settings::settle` meets its contract. Assumes nothing.
use borrow.Author.Tests.{ne_eqb, eq-eqb}
use Rattle.job.specs.Settings.{core_by}
use Rattle.job.proofs.settings.settle.Goals as goal

pub returns-then-p-ne-SETTINGS_BYTES : goal.returns-then-p-ne-SETTINGS_BYTES
unfolding core_by
returns-then-p-ne-SETTINGS_BYTES c = simp (ne_eqb _ _ c.if-p-ne-SETTINGS_BYTES.true)

pub returns : goal.returns
unfolding core_by
returns c = simp (eq-eqb _ _ c.if-p-ne-SETTINGS_BYTES.false, c.settle_right.ensures)
