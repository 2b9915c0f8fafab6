-- `job::settings::settle_right` meets its contract: the shared settings, then each thread. Assumes nothing.
use Rattle.job.specs.Settings.{settled_core}
use Rattle.job.proofs.settings.settle_right.Goals as goal

pub returns : goal.returns
unfolding settled_core
returns c = simp (c.read_shared.ensures, c.settle_own.ensures, c.settle_own-2.ensures, c.settle_own-3.ensures)
