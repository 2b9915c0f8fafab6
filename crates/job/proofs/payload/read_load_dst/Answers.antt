-- `job::payload::read_load_dst` meets its contract: both tests of a Dst load, or wrong. Assumes nothing.
use Rattle.job.specs.Kinds.{load_dst}
use Rattle.job.proofs.payload.read_load_dst.Goals as goal

pub returns-then-rows-most : goal.returns-then-rows-most
unfolding load_dst
returns-then-rows-most c = let t = simp (c.dst_values.ensures, c.row_count-most.ensures) at c.if-rows-most.true in simp t

pub returns : goal.returns
unfolding load_dst
returns c = let t = simp (c.dst_values.ensures, c.row_count-most.ensures) at c.if-rows-most.false in simp t
