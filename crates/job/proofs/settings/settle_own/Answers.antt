-- `job::settings::settle_own` meets its contract: the counters stay, offset and fidelity base are read. Assumes nothing.
use Rattle.job.proofs.settings.settle_own.Goals as goal

pub returns : goal.returns
returns c = simp (c.read2.ensures.0)
