-- `job::payload::read_settings` meets its contract. Assumes nothing.
use borrow.Author.Tests.{ne_eqb, eq-eqb}
use Rattle.job.specs.Kinds.{settings_kind}
use Rattle.job.proofs.payload.read_settings.Goals as goal

pub returns-then-p-ne-SETTINGS_BYTES : goal.returns-then-p-ne-SETTINGS_BYTES
unfolding settings_kind
returns-then-p-ne-SETTINGS_BYTES c = simp (ne_eqb _ _ c.if-p-ne-SETTINGS_BYTES.true)

pub returns-then-settings_right : goal.returns-then-settings_right
unfolding settings_kind
returns-then-settings_right c = simp (eq-eqb _ _ c.if-p-ne-SETTINGS_BYTES.false, ← c.settings_right.ensures, c.if-settings_right.true)

pub returns : goal.returns
unfolding settings_kind
returns c = simp (eq-eqb _ _ c.if-p-ne-SETTINGS_BYTES.false, ← c.settings_right.ensures, c.if-settings_right.false)
