-- `job::settings::settings_right` meets its contract. Assumes nothing.
use Rattle.job.specs.Settings.{settings_right}
use Rattle.job.proofs.settings.settings_right.Goals as goal

pub returns : goal.returns
unfolding settings_right
returns c = simp (c.read_shared-shared.ensures, c.thread_right.ensures, c.thread_right-2.ensures, c.thread_right-3.ensures, c.settings_ok.ensures)
