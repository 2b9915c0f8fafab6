-- `job::payload::read_load_src` meets its contract: both tests of a Src load, or wrong. Assumes nothing.
use Rattle.job.specs.Kinds.{load_src}
use Rattle.job.proofs.payload.read_load_src.Goals as goal

pub returns-then-rows-values_right : goal.returns-then-rows-values_right
unfolding load_src
returns-then-rows-values_right c = let t = simp c.values_right.ensures at c.if-rows-values_right.true in simp t

pub returns : goal.returns
unfolding load_src
returns c = let t = simp c.values_right.ensures at c.if-rows-values_right.false in simp t
