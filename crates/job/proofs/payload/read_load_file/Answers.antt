-- `job::payload::read_load_file` meets its contract: file by file. Assumes nothing.
use Rattle.job.specs.Kinds.{load_file}
use native.Mathlib.Omega.{arith}
use Rattle.std.proofs.lemmas.Grind.{common_steps}
use Rattle.job.proofs.payload.read_load_file.Goals as goal

pub returns-in-0 : goal.returns-in-0
unfolding load_file
returns-in-0 c = simp (c.in-0.is, c.read_load_src.ensures)

pub returns-in-1 : goal.returns-in-1
unfolding load_file
returns-in-1 c = simp (c.in-1.is, c.read_load_src-in-1.ensures)

pub returns-in-2 : goal.returns-in-2
unfolding load_file
returns-in-2 c = simp (c.in-2.is, c.read_load_dst.ensures)

pub returns-in_default : goal.returns-in_default
unfolding load_file
returns-in_default c = grind (arith, common_steps)
