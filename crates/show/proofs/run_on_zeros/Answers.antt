use Rattle.std.specs.Io.KnownBytes.{Appends}
use Rattle.run.specs.Run.{run_of}
use Rattle.show.specs.Bytes.{zeros}
use Rattle.show.proofs.Ended.{printed_alike}
use Rattle.show.proofs.run_on_zeros.Goals as goal

pub returns-clause-outcome : goal.returns-clause-outcome
unfolding zeros
returns-clause-outcome g c = c.run-outcome.ensures.0

pub returns-clause-written : goal.returns-clause-written
unfolding zeros
returns-clause-written g c =
    rw (← printed_alike c.args.job.now (run_of c.args.job.now zeros) _ _ c.run-outcome.ensures.0 c.run-outcome.ensures.1) (c.put_run-written.ensures _ _)
