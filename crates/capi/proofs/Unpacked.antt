-- Whatever the job, the record and the lent numbers, a caller gets the very answer back out of the packed number: `precheck_unpacked`,
-- `run_unpacked`, `step_unpacked`. For this, a place and a count are at most 8,192, and a bit below 24. An answer without a bit
-- is as it was before there were bits: `without_bit`. Assumes nothing.
use Rattle.std.specs.Prelude.{Option, None, Result, Ok, Err, ⊤}
use mathlib.Core.Path.{◌≡◌, refl}
use mathlib.Core.List.{List}
use Prim.Native.Nat.{ℕ, ◌+◌, ◌*◌, ◌/◌, ◌%◌, ◌<◌, ◌≤◌}
use native.Mathlib.Omega.{arith}
use borrow.Author.Tests.{lt-ltb, le-ltb, ne_eqb}
use Rattle.cells.specs.Layout.{job_bytes}
use Rattle.word.proofs.Numbers.{tabled, tabled_byte}
use Rattle.word.specs.Refusal.{number_of, bit_of, bit_number, Answer, passed, finished, refused}
use Rattle.word.specs.declared.Refusal.{Refusal}
use Rattle.control.specs.declared.Control.{Control}
use Rattle.rules.specs.Rules.{verdict_answer}
use Rattle.cells.specs.State.{State}
use Rattle.step.specs.Step.{stepped_of, step_answer}
use Rattle.precheck.specs.Check.{precheck_of, checked_answer, precheck_answer}
use Rattle.run.specs.Run.{run_of, outcome_answer, run_answer}
use Rattle.run.proofs.SmallAnswers.{SmallBit, Small, step_small, precheck_small, run_small}
use Rattle.capi.specs.Packed.{refusal_bit, number_unit, bit_unit, packed, unpacked_number, unpacked_bit, unpacked_refusal, unpacked_count, unpacked_check, unpacked_run, unpacked_step}
use Rattle.word.specs.declared.Refused.{Refused}
use Rattle.word.specs.Refusal.{refused_at}

-- ---- one number

-- the number of a refusal, whatever its place and bit
pub number_unpacks : (number place : ℕ) (bit : Option ℕ) → number < 256 → unpacked_number (packed (refused number place bit)) ≡ number
number_unpacks number place bit i =
    let b = bit_number bit in
    let x = refusal_bit + b * bit_unit + number * number_unit + place % number_unit in
    let q : x / number_unit ≡ refusal_bit / number_unit + b * (bit_unit / number_unit) + number = omega arith in
    rw q (omega arith)

-- a refusal, and that it is taken for one
refusal_unpacks : (number place : ℕ) (bit : Option ℕ) → number < 256 → place ≤ job_bytes → SmallBit number bit
    → (unpacked_refusal (packed (refused number place bit)) ≡ refused number place bit) × (refusal_bit ≤ packed (refused number place bit))
refusal_unpacks number place bit i j k =
    let b = bit_number bit in
    let x = refusal_bit + b * bit_unit + number * number_unit + place % number_unit in
    let p : x % number_unit ≡ place = omega arith in
    let n : unpacked_number x ≡ number = number_unpacks number place bit i in
    let d : x / bit_unit ≡ refusal_bit / bit_unit + b = omega arith in
    let m : unpacked_bit x ≡ b = rw d (omega (arith, k.1)) in
    (rw (p, n, m) (λ h. refused number place (k.0 h)), omega arith)

pub without_bit : (number place : ℕ) → packed (refused number place None) ≡ refusal_bit + number * number_unit + place % number_unit
without_bit number place = omega arith

module _ (counted : ℕ → Answer) where
  count_unpacks : (n : ℕ) → n ≤ job_bytes → unpacked_count counted n ≡ counted n
  count_unpacks n s = rw (lt-ltb n refusal_bit (omega arith))

  refused_unpacks : (number place : ℕ) (bit : Option ℕ) → Small (refused number place bit)
      → unpacked_count counted (packed (refused number place bit)) ≡ refused number place bit
  refused_unpacks number place bit s =
      let u = refusal_unpacks number place bit (tabled_byte number s.0) s.1 s.2 in
      rw (le-ltb (packed (refused number place bit)) refusal_bit u.1) u.0

-- ---- nothing is lost

pub precheck_unpacked : (job : List ℕ) → unpacked_check (packed (precheck_answer job)) ≡ precheck_answer job
unfolding precheck_answer
precheck_unpacked job = go (precheck_of job) (precheck_small job)
  where
    go : (x : Result ℕ Refused) → Small (checked_answer x) → unpacked_check (packed (checked_answer x)) ≡ checked_answer x
    go (Ok n) s = count_unpacks passed n s
    go (Err x) s = refused_unpacks passed (number_of x.refusal) x.place (bit_of x.refusal) s

pub run_unpacked : (job : List ℕ) (s : State) → unpacked_run (packed (run_answer job s)) ≡ run_answer job s
unfolding run_answer
run_unpacked job s = go (run_of job s).outcome (run_small job s)
  where
    go : (x : Result ℕ Refused) → Small (outcome_answer x) → unpacked_run (packed (outcome_answer x)) ≡ outcome_answer x
    go (Ok n) s = count_unpacks finished n s
    go (Err x) s = refused_unpacks finished (number_of x.refusal) x.place (bit_of x.refusal) s

pub step_unpacked : (c : Control) (t w : ℕ) (s : State) → unpacked_step (packed (step_answer c t w s)) ≡ step_answer c t w s
unfolding step_answer
step_unpacked c t w s = go (stepped_of c t w s).verdict (step_small c t w s)
  where
    go : (v : Result ⊤ Refusal) → ((r : Refusal) → v ≡ Err r → SmallBit (number_of r) (bit_of r)) → unpacked_step (packed (verdict_answer v)) ≡ verdict_answer v
    go (Ok u) h = refl
    go (Err r) h =
        let u = refusal_unpacks (number_of r) 0 (bit_of r) (tabled_byte (number_of r) (tabled r)) (omega arith) (h r refl) in
        rw (ne_eqb (packed (refused (number_of r) 0 (bit_of r))) 0 (λ e. omega (arith, u.1))) u.0
