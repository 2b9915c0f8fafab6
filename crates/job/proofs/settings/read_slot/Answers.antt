-- `job::settings::read_slot` meets its contract: the flags bit by bit. Assumes nothing.
use Rattle.job.specs.Settings.{slot_of}
use native.Mathlib.Nat.{div-one}
use Rattle.job.proofs.settings.read_slot.Goals as goal

pub returns : goal.returns
unfolding slot_of
returns c = simp (c.read2-step.ensures.0, div-one)
