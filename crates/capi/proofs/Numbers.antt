-- No answer of a C function has number 10. Assumes nothing.
use Rattle.std.specs.Prelude.{Option, Result, Ok, Err, ⊤}
use mathlib.Core.Path.{◌≡◌, sym, ◌∙◌}
use mathlib.Core.Bool.{true}
use mathlib.Core.Logic.{◌≢◌}
use Prim.Native.Nat.{ℕ, ◌≤◌}
use native.Mathlib.Omega.{arith}
use Rattle.cells.specs.Layout.{job_bytes}
use Rattle.cells.specs.Tests.{one_of}
use Rattle.word.specs.Refusal.{number_of, table_numbers, bit_of, Answer, done, passed, finished, refused}
use Rattle.word.proofs.Numbers.{tabled, tabled_byte, tabled_not_ten}
use Rattle.numbers.specs.Record.{record_of}
use Rattle.rules.specs.Rules.{verdict_answer}
use Rattle.step.specs.Step.{stepped_of, step_answer}
use Rattle.precheck.specs.Check.{precheck_answer}
use Rattle.run.specs.Run.{run_answer}
use Rattle.run.proofs.SmallAnswers.{Small, precheck_small, run_small}
use Rattle.capi.specs.Numbers.{NoTen}
use Rattle.capi.specs.Packed.{packed, unpacked_number}
use Rattle.capi.proofs.Unpacked.{number_unpacks}
use Rattle.word.specs.declared.Refusal.{Refusal}

count_other : (n : ℕ) → n ≤ job_bytes → unpacked_number n ≢ 10
count_other n h e = omega (arith, h, e)

refused_other : (number place : ℕ) (bit : Option ℕ) → one_of number table_numbers ≡ true → unpacked_number (packed (refused number place bit)) ≢ 10
refused_other number place bit h e = tabled_not_ten number h (sym (number_unpacks number place bit (tabled_byte number h)) ∙ e)

-- of a job, and of a step
small_other : (x : Answer) → Small x → unpacked_number (packed x) ≢ 10
small_other done s = absurd s
small_other (passed n) s = count_other n s
small_other (finished n) s = count_other n s
small_other (refused number place bit) s = refused_other number place bit s.0

verdict_other : (v : Result ⊤ Refusal) → unpacked_number (packed (verdict_answer v)) ≢ 10
verdict_other (Ok u) = count_other 0 (omega arith)
verdict_other (Err r) = refused_other (number_of r) 0 (bit_of r) (tabled r)

pub no_ten : NoTen
unfolding step_answer
no_ten =
    record {
      precheck = λ job. small_other (precheck_answer job) (precheck_small job);
      run = λ job s. small_other (run_answer job s) (run_small job s);
      step = λ numbers t w s. verdict_other (stepped_of (record_of numbers) t w s).verdict;
    }
