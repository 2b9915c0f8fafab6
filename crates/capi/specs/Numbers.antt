-- Document 02, order 8, at the C interface: whatever a caller lends, the number that is taken from an answer, as include/vintrazzola.h does it, is not 10.
-- Definitions only.
use Rattle.std.specs.Prelude.{List, ◌≢◌, ℕ}
use Rattle.cells.specs.State.{State}
use Rattle.numbers.specs.Record.{record_of}
use Rattle.step.specs.Step.{step_answer}
use Rattle.precheck.specs.Check.{precheck_answer}
use Rattle.run.specs.Run.{run_answer}
use Rattle.capi.specs.Packed.{packed, unpacked_number}

pub record NoTen : Type 0 where
  -- `vintrazzola_precheck`, `vintrazzola_run`
  pub precheck : (job : List ℕ) → unpacked_number (packed (precheck_answer job)) ≢ 10
  pub run : (job : List ℕ) (s : State) → unpacked_number (packed (run_answer job s)) ≢ 10
  -- `vintrazzola_step`, on the record that the numbers stand for
  pub step : (numbers : List ℕ) (thread word : ℕ) (s : State) → unpacked_number (packed (step_answer (record_of numbers) thread word s)) ≢ 10
