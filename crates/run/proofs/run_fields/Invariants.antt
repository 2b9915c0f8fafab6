-- `run::run_fields` meets its contract: the fields that are left, from what the loop has come to, do what all of the job do. Assumes nothing.
use Rattle.run.proofs.Running.{Running}
use Rattle.job.specs.Fields.{fields_from}
use Rattle.job.specs.Settings.{choices_in}
use Rattle.control.specs.Halves.{joined}
use Rattle.cells.specs.State.{state}
use Rattle.run.proofs.run_fields.Given as goal

abbrev pub invariant-loop-f : goal.invariant-loop-f
invariant-loop-f l = Running l.job (state l.initial.srca l.initial.srcb l.initial.dst l.initial.registers) (joined l.k (choices_in l.fixed)) l.count (state l.srca l.srcb l.dst l.registers) (fields_from l.f-iterator.job.now l.f-iterator.at)
