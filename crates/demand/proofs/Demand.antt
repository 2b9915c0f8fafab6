-- Demand 3 and demand 1, and no 7 in the BF16 mode, proved for every list of bytes. Assumes nothing.
use mathlib.Core.Path.{◌≡◌, refl, sym, ap, ◌∙◌}
use mathlib.Core.Bool.{Bool, true, false, ◌||◌, false≢true}
use mathlib.Core.List.{List, [], ◌∷◌, map}
use mathlib.Core.Logic.{◌⊎◌, inl, inr, ◌≢◌, ⊎_elim}
use Prim.Native.Nat.{ℕ, zero, suc}
use native.Mathlib.Nat.{zero-add}
use native.Mathlib.Omega.{arith}
use lib.Dec.{eqb, ltb}
use lib.ListN.{length, get_or, replicate}
use Rattle.std.specs.Prelude.{⊤, Result, Ok, Err}
use Rattle.cells.specs.declared.Width.{Width}
use Rattle.cells.specs.declared.Width.TheVariants.{Bits32, Bits16}
use Rattle.cells.specs.Layout.{src_rows, src_numbers, dst_numbers, register_count}
use Rattle.cells.specs.Places.{row_count}
use Rattle.cells.proofs.Cells.{split}
use Rattle.cells.proofs.Same.{Same}
use Rattle.word.specs.Refusal.{number_of, bit_of}
use Rattle.word.specs.declared.Refusal.{Refusal}
use Rattle.word.specs.declared.Refusal.TheVariants as refusal
use Rattle.control.specs.Record.{start}
use Rattle.control.proofs.StaysInRange.{start_kept}
use Rattle.cells.specs.Tests.{one_of}
use Rattle.cells.specs.State.{State, sized}
use Rattle.cells.proofs.Sizes.{sizes, sized_of, unsized}
use Rattle.job.specs.Fields.{job_width, fields_from}
use Rattle.job.specs.Shape.{shape_of}
use Rattle.job.specs.declared.WrongAt.{WrongAt}
use Rattle.job.proofs.Shaped.{sound}
use Rattle.precheck.specs.Marks.{unset_but, unset}
use Rattle.precheck.specs.Check.{precheck_of}
use Rattle.precheck.proofs.Checking.{precheck_passed, precheck_right, precheck_wrong}
use Rattle.run.specs.Run.{Ran, ran, run_of}
use Rattle.run.proofs.Running.{run_passed, run_refused, run_unsized}
use Rattle.lines.specs.Lines.{lines_of}
use Rattle.lines.specs.Text.{refused_text}
use Rattle.lines.specs.Printed.{printed_by, printed_of, printed_text, texts_of}
use Rattle.lines.proofs.Fits.{run_written}
use Rattle.demand.specs.Breaks.{FirstBroken, issue_fields}
use Rattle.demand.specs.Demand as demand
use Rattle.demand.specs.Demand.{job_numbers, run_numbers, Ranks, Lengths, Unbroken, Named, Demand3, Demand1, JobModes}
use Rattle.demand.proofs.Agreement.{Agree, by_row, alone}
use Rattle.demand.proofs.Widths.{first_width, wide}
use Rattle.demand.proofs.Modes.{breaks_same, none_breaks_seven}
use Rattle.demand.proofs.Passed.{counted, all_go, all_met, all_done, all_end, steps_on, Ended, ended}
use Rattle.demand.proofs.Shapes.{well_right, right_well, first_wrong, wrong_first}
use Rattle.demand.proofs.Tagged.{issues_tagged, halves, bytes}
use Rattle.demand.proofs.Steps.{sizes_of, lengths_of}
use Rattle.demand.proofs.Refused.{none_breaks, first_breaks}
use Rattle.demand.proofs.Rules.{ranks}
use Rattle.demand.proofs.Bits.{Told, not_three, precheck_told}
use Rattle.demand.proofs.Values.{values_same}
use Rattle.word.specs.declared.Refused.{Refused}
use Rattle.word.specs.Refusal.{refused_at}
use Rattle.word.proofs.Passing.{same_refused}

-- ---- at the start all is unset, so any two states of the right sizes agree

none_set : (n i : ℕ) → get_or (replicate n false) i false ≡ false
none_set zero i = refl
none_set (suc n) zero = refl
none_set (suc n) (suc i) = none_set n i

unset_same : (w : Width) (row : ℕ → ℕ) (k n : ℕ) (d e : List ℕ) → length d ≡ n → length e ≡ n → Same w row n (replicate k false) d e
unset_same w row k n d e p q = record { left = p; right = q; same = λ i t. absurd (false≢true (sym (none_set k (row i)) ∙ t)) }

start_agrees : (w : Width) (d e : State) → sized d ≡ true → sized e ≡ true → Agree w (unset w) d e
unfolding unset unset_but
start_agrees w d e p q =
    let s = sizes d p in
    let r = sizes e q in
    record {
      srca = unset_same Bits32 by_row src_rows src_numbers _ _ s.srca r.srca;
      srcb = unset_same Bits32 by_row src_rows src_numbers _ _ s.srcb r.srcb;
      dst = unset_same w by_row (row_count w) dst_numbers _ _ s.dst r.dst;
      registers = unset_same Bits32 alone register_count register_count _ _ s.registers r.registers;
    }

or_right : (a b : Bool) → b ≡ true → (a || b) ≡ true
or_right true b h = refl
or_right false b h = h

-- ---- the answer of the pre-check, and that of the run by it

module _ (job : List ℕ) where
  -- a job that passes, over two states
  both_end : (n : ℕ) → precheck_of job ≡ Ok n → (s t : State) → sized s ≡ true → sized t ≡ true
      → Ended (job_width job) (fields_from job 0) (unset (job_width job)) 0 (run_of job s) (run_of job t)
  both_end n e s t p q =
      let x = precheck_passed job n e in
      rw (run_passed job s p n e, run_passed job t q n e)
      (ended job (fields_from job 0) start (unset (job_width job)) s t 0 n (sound job 0) (wide job x.0) start_kept x.1 (start_agrees (job_width job) s t p q))

  found : shape_of job ≡ Ok tt → (r : Refusal) (p : ℕ) → precheck_of job ≡ Err (refused_at r p) → FirstBroken job start (unset (job_width job)) (fields_from job 0) r p
  found w r p e = (first_breaks job (fields_from job 0) start (unset (job_width job)) 0 r p (sym (precheck_right job w) ∙ e)).0

  passes : shape_of job ≡ Ok tt → Unbroken job → precheck_of job ≡ Ok (issue_fields (fields_from job 0))
  passes w h = go (precheck_of job) refl
    where
      go : (x : Result ℕ Refused) → precheck_of job ≡ x → x ≡ Ok (issue_fields (fields_from job 0))
      go (Ok n) e = ap Ok (counted job (fields_from job 0) start (unset (job_width job)) 0 n (precheck_passed job n e).1 ∙ zero-add _)
      go (Err x) e = let b = found w x.refusal x.place e in absurd (false≢true (sym (h b.index x.refusal) ∙ b.breaking))

  finishes : (n : ℕ) → precheck_of job ≡ Ok n → (s : State) → sized s ≡ true → (run_of job s).outcome ≡ Ok (issue_fields (fields_from job 0))
  finishes n e s p = (both_end n e s s p p).finished ∙ ap Ok (zero-add _)

  prints : (n : ℕ) → precheck_of job ≡ Ok n → (s t : State) → sized s ≡ true → sized t ≡ true → printed_of job (run_of job s) ≡ printed_of job (run_of job t)
  unfolding lines_of printed_by
  prints n e s t p q = rw (finishes n e s p, finishes n e t q, (both_end n e s t p q).lines)

  -- a job that the pre-check turns down gets one of 1 to 8
  tabled : (r : Refusal) (p : ℕ) → precheck_of job ≡ Err (refused_at r p) → one_of (number_of r) job_numbers ≡ true
  tabled r p e = go (shape_of job) refl
    where
      go : (w : Result ⊤ WrongAt) → shape_of job ≡ w → one_of (number_of r) job_numbers ≡ true
      go (Ok x) w = or_right (eqb (number_of r) 1) _ (first_breaks job (fields_from job 0) start (unset (job_width job)) 0 r p (sym (precheck_right job w) ∙ e)).1
      go (Err wrong) w =
          let x = same_refused (sym (precheck_wrong job wrong.0 w) ∙ e) in
          rw (← x.0)

  -- by its shape, or by a rule
  named_by : (r : Refusal) (p : ℕ) → precheck_of job ≡ Err (refused_at r p) → Named job r p
  named_by r p e = go (shape_of job) refl
    where
      go : (w : Result ⊤ WrongAt) → shape_of job ≡ w → Named job r p
      go (Ok x) w = demand.rule (right_well job w) (found w r p e)
      go (Err wrong) w =
          let x = same_refused (sym (precheck_wrong job wrong.0 w) ∙ e) in
          demand.shape (sym x.0) (rw (← x.1) (wrong_first job wrong.0 w))

  size : (s : State) → Lengths s → sized s ≡ true
  size s l = sized_of s (sizes_of s l)

  pub demand3 : Demand3 job
  demand3 =
      record {
        right = λ n e. right_well job (precheck_passed job n e).0;
        unbroken = λ n e. none_breaks job (fields_from job 0) start (unset (job_width job)) 0 n (precheck_passed job n e).1;
        passes = λ w. passes (well_right job w);
        finishes = λ n e s l. finishes n e s (size s l);
        carried = λ n e s l.
            let x = precheck_passed job n e in all_done job (fields_from job 0) start (unset (job_width job)) s 0 n (sound job 0) start_kept x.1 (sizes_of s l);
        goes = λ n e s l.
            let x = precheck_passed job n e in all_go job (fields_from job 0) start (unset (job_width job)) s 0 n (sound job 0) start_kept x.1 (sizes_of s l);
        ends = λ n e s l k x a b. ap (λ (z : Ran). z.state) (run_passed job s (size s l) n e) ∙ all_end job (fields_from job 0) start (unset (job_width job)) s 0 k x a b;
        met = λ s. all_met job (fields_from job 0) start (unset (job_width job)) s;
        steps = λ s. steps_on job (fields_from job 0) start (unset (job_width job)) s;
        issues = issues_tagged job;
        prints = λ n e s t l k. prints n e s t (size s l) (size t k);
        texts = λ n e s t l k. ap (map printed_text) (prints n e s t (size s l) (size t k));
        misshapen = λ p h. precheck_wrong job p (first_wrong job p h);
        found = named_by;
        named = tabled;
        at_issue = λ r p e. (precheck_told job r p e).0;
        bit = λ r p e. (precheck_told job r p e).1;
        refuses = λ r p e s l. run_refused job s (size s l) r p e;
        values = λ w other o. values_same job other (λ f. true) o;
        values_before = λ p w other o. values_same job other (λ f. ltb f.place p) o;
      }

  -- ---- demand 1

  module _ (s : State) where
    -- what a run answers and leaves, where both are known
    told : (a : Refusal) (b : ℕ) → run_of job s ≡ ran (Err (refused_at a b)) s → (r : Refusal) (p : ℕ) → (run_of job s).outcome ≡ Err (refused_at r p)
        → ((run_of job s).state ≡ s) × ((a ≡ r) × (b ≡ p))
    told a b q r p o = (ap (λ (z : Ran). z.state) q, same_refused (sym (ap (λ (z : Ran). z.outcome) q) ∙ o))

    -- a run refuses by the state's lengths, or as the pre-check does; else it finishes
    refused : (r : Refusal) (p : ℕ) → (run_of job s).outcome ≡ Err (refused_at r p) → ((run_of job s).state ≡ s) × ((number_of r ≡ 9) ⊎ (precheck_of job ≡ Err (refused_at r p)))
    refused r p o =
        split (sized s) (λ size. go size (precheck_of job) refl)
        (λ size.
        let x = told refusal.StateLength 0 (run_unsized job s size) r p o in
        (x.0, inl (sym (ap number_of x.1.0))))
      where
        go : sized s ≡ true → (v : Result ℕ Refused) → precheck_of job ≡ v → ((run_of job s).state ≡ s) × ((number_of r ≡ 9) ⊎ (precheck_of job ≡ Err (refused_at r p)))
        go size (Ok n) w =
            let y : Ok (issue_fields (fields_from job 0)) ≡ Err (refused_at r p) = sym (finishes n w s size) ∙ o in
            absurd (let z : ◌≡◌ {A = ℕ} 0 1 = cc in omega arith)
        go size (Err e) w =
            let x = told e.refusal e.place (run_refused job s size e.refusal e.place w) r p o in
            (x.0, inr (w ∙ (λ i. Err (refused_at (x.1.0 i) (x.1.1 i)))))

    -- 9 has no bit, any other number that of the pre-check
    told_by : (r : Refusal) (p : ℕ) → (run_of job s).outcome ≡ Err (refused_at r p) → Told job r p
    told_by r p o = ⊎_elim (λ n. not_three job r p (λ z. omega (arith, n, z))) (precheck_told job r p) (refused r p o).1

    line : (r : Refusal) (p : ℕ) → (run_of job s).outcome ≡ Err (refused_at r p) → texts_of job (run_of job s) ≡ refused_text (number_of r) p (bit_of r) ∷ []
    unfolding printed_by printed_text
    line r p o = rw o

    pub demand1 : Demand1 job s
    demand1 =
        record {
          unsized = λ h. run_unsized job s (unsized s (λ z. h (lengths_of s z)));
          kept = λ r p o. (refused r p o).0;
          tabled = λ r p o. ⊎_elim (λ q. rw q) (λ e. or_right (eqb (number_of r) 9) _ (tabled r p e)) (refused r p o).1;
          at_issue = λ r p o. (told_by r p o).0;
          bit = λ r p o. (told_by r p o).1;
          line = line;
          written = run_written job s;
        }

  -- ---- the BF16 mode

  check_modes : job_width job ≡ Bits16 → (r : Refusal) (p : ℕ) → precheck_of job ≡ Err (refused_at r p) → number_of r ≢ 7
  check_modes q r p e z = go (shape_of job) refl
    where
      go : (w : Result ⊤ WrongAt) → shape_of job ≡ w → ⊥
      go (Ok x) w =
          let b = found w r p e in
          false≢true (sym (none_breaks_seven job q (fields_from job 0) start (unset (job_width job)) (wide job w) b.index) ∙ sym (breaks_same r refusal.DstRow z job start (unset (job_width job)) (fields_from job 0) b.index) ∙ b.breaking)
      go (Err wrong) w =
          omega (arith, ap number_of (same_refused (sym (precheck_wrong job wrong.0 w) ∙ e)).0, z)

  pub job_modes : JobModes job
  job_modes =
      record {
        halves = halves job;
        bytes = bytes job;
        width = λ w. first_width job (well_right job w);
        check = check_modes;
        run = λ q s r p o. ⊎_elim (λ n z. omega (arith, n, z)) (check_modes q r p) (refused s r p o).1;
      }

-- ---- ranks and numbers

pub ranked : (r : Refusal) → Ranks r
ranked = ranks
