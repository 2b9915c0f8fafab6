-- `job::settings::thread_right` meets its contract: its own numbers, then its slots. Assumes nothing.
use Rattle.job.specs.Settings.{thread_right}
use Rattle.job.proofs.settings.thread_right.Goals as goal

pub returns : goal.returns
unfolding thread_right
returns c = simp (c.read2.ensures.0, c.slots_right.ensures)
