-- `job::loads::load_part` meets its contract: before number i all of the stretch is loaded. Assumes nothing.
use Rattle.cells.proofs.Parts.{Going}
use Rattle.job.specs.Loading.{value_from}
use Rattle.job.proofs.loads.load_part.Given as goal

abbrev pub invariant-loop-i : goal.invariant-loop-i
invariant-loop-i l = Going l.part (value_from l.payload l.lo) l.initial.file l.lo l.hi l.start l.end l.file l.i
