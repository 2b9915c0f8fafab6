-- A job's answer is small: its count or its place is at most 8,192, its number is one of the table's, and a bit, which refusal 3 alone has, below 24. So is a step's bit. Assumes nothing.
use mathlib.Core.Path.{◌≡◌, refl}
use mathlib.Core.Bool.{true}
use mathlib.Core.List.{List, [], ◌∷◌}
use Prim.Native.Nat.{ℕ, zero, suc, ◌+◌, ◌<◌, ◌≤◌}
use native.Mathlib.Omega.{arith}
use borrow.Author.Tests.{ltb-true, ltb-false}
use lib.Dec.{ltb}
use lib.ListN.{length}
use Rattle.std.specs.Prelude.{⊤, Result, Ok, Err, Option, None}
use Rattle.cells.specs.Layout.{job_bytes}
use Rattle.cells.specs.State.{State, sized}
use Rattle.cells.specs.Tests.{one_of}
use Rattle.cells.proofs.Cells.{split}
use Rattle.word.proofs.Numbers.{tabled, HasBit, three, other, has_bit, bit_back}
use Rattle.word.proofs.ReadWords.{offending_low}
use Rattle.word.specs.Refusal.{number_of, table_numbers, bit_of, bit_number, bit_by, Answer, done, passed, finished, refused}
use Rattle.word.specs.declared.Refusal.{Refusal}
use Rattle.word.specs.declared.Refusal.TheVariants as refusal
use Rattle.control.specs.declared.Control.{Control}
use Rattle.control.specs.Record.{start}
use Rattle.rules.specs.Rules.{lowest}
use Rattle.step.specs.Step.{stepped_of}
use Rattle.step.proofs.Verdicts.{step_bit}
use Rattle.job.specs.Fields.{job_width, field_at, fields_from}
use Rattle.job.specs.Shape.{shape_of}
use Rattle.job.specs.declared.Field.{Field}
use Rattle.job.specs.declared.WrongAt.{WrongAt}
use Rattle.job.proofs.Walk.{grows, ends, place_at, fields_end, fields_step}
use Rattle.job.proofs.Shaped.{shaped, shape_inside}
use Rattle.walk.specs.FieldRecord.{issue_of}
use Rattle.walk.proofs.RecordKept.{issue_most}
use Rattle.precheck.specs.Marks.{Marks, unset}
use Rattle.precheck.specs.Judging.{field_rules}
use Rattle.precheck.specs.Check.{unless_broken, check_from, precheck_of, checked_answer, precheck_answer}
use Rattle.precheck.proofs.Checking.{precheck_right, precheck_wrong, precheck_passed}
use Rattle.precheck.proofs.FieldBits.{field_bit}
use Rattle.run.specs.Run.{execute, run_of, outcome_answer, run_answer}
use Rattle.run.proofs.Running.{run_unsized, run_refused, run_passed}
use Rattle.word.specs.declared.Refused.{Refused}

-- a bit beside a number
abbrev pub SmallBit : ℕ → Option ℕ → Type 0
SmallBit number bit = (bit_by number (bit_number bit) ≡ bit) × (bit_number bit < 24)

-- a job's answer whose count or place is at most 8,192, whose number is one of the table's, and whose bit is small
abbrev pub Small : Answer → Type 0
Small done = ⊥
Small (passed n) = n ≤ job_bytes
Small (finished n) = n ≤ job_bytes
Small (refused number place bit) = (one_of number table_numbers ≡ true) × (place ≤ job_bytes) × SmallBit number bit

-- a refusal whose bit, if it has one, is small
pub bit_small : (r : Refusal) → ((i : ℕ) → r ≡ refusal.UnnamedBit i → i < 24) → SmallBit (number_of r) (bit_of r)
bit_small r h = (bit_back r, go (has_bit r))
  where
    go : HasBit r → bit_number (bit_of r) < 24
    go (three i q) = rw q (h i q)
    go (other n b) = rw b (omega arith)

-- that of one without a bit
no_bit : (number : ℕ) → bit_by number 0 ≡ None → SmallBit number None
no_bit number e = (e, omega arith)

-- ---- the single step

pub step_small : (c : Control) (t w : ℕ) (s : State) (r : Refusal) → (stepped_of c t w s).verdict ≡ Err r → SmallBit (number_of r) (bit_of r)
unfolding stepped_of
step_small c t w s r e = bit_small r (λ i q. let b = step_bit c t w s r e i q in omega (arith, b.1, offending_low w b.0))

-- ---- the fields of a short job

-- every place is small, and so is the count at the end, n issue fields having come before
abbrev Inside : ℕ → List Field → Type 0
Inside n [] = n ≤ job_bytes
Inside n (f ∷ fs) = (f.place ≤ job_bytes) × Inside (n + issue_of f.kind) fs

inside : (job : List ℕ) → length job ≤ job_bytes → Inside 0 (fields_from job 0)
inside job short = go (length job) 0 0 (omega arith) (omega arith) (omega arith)
  where
    go : (k at n : ℕ) → length job ≤ at + k → at ≤ length job → n ≤ at → Inside n (fields_from job at)
    go zero at n l a h = rw (fields_end job at (omega arith)) (omega arith)
    go (suc k) at n l a h =
        split (ltb at (length job))
        (λ e.
        let i = ltb-true at (length job) e in
        let g = grows job at i in
        let m = issue_most (field_at job at).kind in
        rw (fields_step job at i) ((rw (place_at job at) (omega arith)), go k (field_at job at).next (n + issue_of (field_at job at).kind) (omega arith) (ends job at) (omega arith)))
        (λ e. rw (fields_end job at (ltb-false at (length job) e)) (omega arith))

-- ---- the pre-check

check_small : (job : List ℕ) (fs : List Field) (c : Control) (m : Marks) (n : ℕ) → Inside n fs → Small (checked_answer (check_from job fs c m n))
unfolding check_from
check_small job [] c m n i = i
check_small job (f ∷ fs) c m n i = go (lowest (field_rules c m f.kind)) refl _ (check_small job fs _ _ _ i.1)
  where
    bit : (r : Refusal) → lowest (field_rules c m f.kind) ≡ Err r → (i : ℕ) → r ≡ refusal.UnnamedBit i → i < 24
    bit r e i q = let b = field_bit c m f.kind r e i q in omega (arith, b.bit, offending_low b.word b.unnamed)

    go : (v : Result ⊤ Refusal) → lowest (field_rules c m f.kind) ≡ v → (next : Result ℕ Refused) → Small (checked_answer next) → Small (checked_answer (unless_broken v f.place next))
    go (Ok u) e next h = h
    go (Err r) e next h = (tabled r, i.0, bit_small r (bit r e))

pub precheck_small : (job : List ℕ) → Small (precheck_answer job)
unfolding precheck_answer
precheck_small job = go (shape_of job) refl
  where
    go : (x : Result ⊤ WrongAt) → shape_of job ≡ x → Small (checked_answer (precheck_of job))
    go (Ok x) e = rw (precheck_right job e) (check_small job (fields_from job 0) start (unset (job_width job)) 0 (inside job (shaped job e).short))
    go (Err wrong) e = rw (precheck_wrong job wrong.0 e) (tabled refusal.Shape, shape_inside job wrong.0 e, no_bit 1 refl)

-- ---- the run

execute_small : (job : List ℕ) (fs : List Field) (c : Control) (s : State) (n : ℕ) → Inside n fs → Small (outcome_answer (execute job fs c s n).outcome)
unfolding execute
execute_small job [] c s n i = i
execute_small job (f ∷ fs) c s n i = execute_small job fs _ _ _ i.1

pub run_small : (job : List ℕ) (s : State) → Small (run_answer job s)
unfolding run_answer precheck_answer
run_small job s = split (sized s) (λ z. go z (precheck_of job) refl (precheck_small job)) (λ z. rw (run_unsized job s z) (tabled refusal.StateLength, omega arith, no_bit 9 refl))
  where
    go : sized s ≡ true → (x : Result ℕ Refused) → precheck_of job ≡ x → Small (precheck_answer job) → Small (outcome_answer (run_of job s).outcome)
    go z (Ok n) e h =
        rw (run_passed job s z n e) (execute_small job (fields_from job 0) start s 0 (inside job (shaped job (precheck_passed job n e).0).short))
    go z (Err x) e h = rw (run_refused job s z x.refusal x.place e) (rw e at h)
