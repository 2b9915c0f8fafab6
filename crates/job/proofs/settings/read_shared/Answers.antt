-- `job::settings::read_shared` meets its contract: the flags bit by bit. Assumes nothing.
use native.Mathlib.Nat.{div-one}
use Rattle.job.proofs.settings.read_shared.Goals as goal

pub returns : goal.returns
returns c = simp (c.read2.ensures.0, div-one)
