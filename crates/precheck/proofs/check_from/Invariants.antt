-- `precheck::check_from` meets its contract: the fields that are left, from what the loop has come to, are answered as the job is. Assumes nothing.
use Rattle.control.specs.Halves.{joined}
use Rattle.job.specs.Fields.{fields_from}
use Rattle.job.specs.Settings.{choices_in}
use Rattle.precheck.proofs.Checking.{Checking}
use Rattle.precheck.proofs.check_from.Given as goal

abbrev pub invariant-loop-f : goal.invariant-loop-f
invariant-loop-f l = Checking l.job l.initial.dst l.srca l.srcb l.dst l.registers (joined l.k (choices_in l.fixed)) l.count (fields_from l.f-iterator.job.now l.f-iterator.at)
