-- The run's walk, a field at a time, and its answer in each of its cases. Assumes nothing.
use mathlib.Core.Path.{◌≡◌, refl, sym, ap, subst, ◌∙◌}
use mathlib.Core.Bool.{true, false}
use mathlib.Core.List.{List, [], ◌∷◌}
use Prim.Native.Nat.{ℕ, ◌+◌, ◌≤◌, ◌<◌}
use native.Mathlib.Omega.{arith}
use lib.ListN.{length}
use Rattle.std.specs.Prelude.{Result, Ok, Err}
use Rattle.cells.specs.State.{State, sized}
use Rattle.cells.specs.Layout.{thread_count}
use Rattle.cells.proofs.Sizes.{Sizes, sized_of}
use Rattle.word.specs.declared.Operands.{Operands}
use Rattle.word.specs.declared.Refusal.{Refusal}
use Rattle.word.specs.declared.Refusal.TheVariants.{StateLength}
use Rattle.control.specs.declared.Control.{Control}
use Rattle.control.specs.Record.{start}
use Rattle.control.specs.Range.{in_range}
use Rattle.control.proofs.StaysInRange.{start_kept}
use Rattle.rules.specs.Rules.{operand_rules, lowest, judgement}
use Rattle.rules.specs.After.{acting, record_after, control_after}
use Rattle.rules.proofs.Reading.{judged_read, judged_operands}
use Rattle.step.specs.Inside.{acted}
use Rattle.step.specs.Step.{verdict_of, stepped_of}
use Rattle.step.proofs.Verdicts as Step
use Rattle.job.specs.declared.Cause.{Cause}
use Rattle.job.specs.Fields.{job_width, fields_from, EachField}
use Rattle.job.specs.declared.Kind.{Kind}
use Rattle.job.specs.declared.Kind.TheVariants as kind
use Rattle.job.specs.declared.Field.{Field}
use Rattle.job.specs.Range.{InRange}
use Rattle.job.proofs.Shaped.{Sound, sound}
use Rattle.job.proofs.Walk.{fields_few}
use Rattle.walk.specs.FieldRecord.{field_control, issue_of}
use Rattle.walk.proofs.RecordKept.{control_kept, issue_most}
use Rattle.precheck.specs.Marks.{Marks, unset}
use Rattle.precheck.specs.Judging.{field_rules}
use Rattle.precheck.specs.Marking.{field_marks}
use Rattle.precheck.specs.Check.{check_from, precheck_of, Passes}
use Rattle.precheck.proofs.Checking.{check_passed, issue_judged, precheck_passed}
use Rattle.run.specs.Perform.{performed, control_on}
use Rattle.run.specs.Run.{Ran, ran, execute, run_of, outcome_answer, run_answer}
use Rattle.run.proofs.Performs.{performed_sizes}
use Rattle.word.specs.declared.Refused.{Refused}
use Rattle.word.specs.Refusal.{refused_at}

-- ---- a field that breaks no rule, on a record in range and a state of the right sizes

module _ (c : Control) (m : Marks) (range : in_range c ≡ true) (s : State) (size : Sizes s) where
  -- the single step of an instruction is done
  pub step_done : (t w : ℕ) → t < thread_count → lowest (field_rules c m (Ok (kind.Issue t w))) ≡ Ok tt → verdict_of c t w s ≡ Ok tt
  step_done t w l h = Step.judged_is c t w s (sized_of s size) range l ∙ issue_judged c m t w h

  -- so any field leaves the record that the pre-check goes by
  pub control_same : (job : List ℕ) (place : ℕ) (k : Result Kind Cause) → InRange k → lowest (field_rules c m k) ≡ Ok tt → control_on job c place k s ≡ field_control job c place k
  unfolding control_on field_control stepped_of
  control_same job place (Ok kind.Settings) i h = refl
  control_same job place (Ok (kind.Issue t w)) i h = rw (step_done t w i h)
  control_same job place (Ok (kind.HandOver file)) i h = refl
  control_same job place (Ok (kind.Writes x)) i h = refl
  control_same job place (Ok (kind.Prints o)) i h = refl
  control_same job place (Err x) i h = refl

-- ---- over a list of fields

pub execute_none : (job : List ℕ) (c : Control) (s : State) (n : ℕ) → execute job [] c s n ≡ ran (Ok n) s
unfolding execute
execute_none job c s n = refl

pub execute_next : (job : List ℕ) (f : Field) (fs : List Field) (c : Control) (s : State) (n : ℕ)
    → execute job (f ∷ fs) c s n ≡ execute job fs (control_on job c f.place f.kind s) (performed job c f.place f.kind s) (n + issue_of f.kind)
unfolding execute
execute_next job f fs c s n = refl

-- ---- the walk's loop

-- fs are the fields that are left: what the walk answers and leaves on them is what it does on all, and they pass, judged on the marks that those before
-- them left
pub record Running (job : List ℕ) (s₀ : State) (c : Control) (n : ℕ) (s : State) (fs : List Field) : Type 0 where
  pub same : execute job fs c s n ≡ execute job (fields_from job 0) start s₀ 0
  pub sound : EachField (Sound job) fs
  pub range : in_range c ≡ true
  pub size : Sizes s
  pub few : n + length fs ≤ length job
  pub marked : Marks
  pub total : ℕ
  pub passes : check_from job fs c marked n ≡ Ok total

pub running_first : {job : List ℕ} {s : State} {c : Control} {fs : List Field} → fs ≡ fields_from job 0 → Sizes s → Passes job → c ≡ start → Running job s c 0 s fs
running_first {job} q z p e =
    record {
      same = rw (q, e) refl;
      sound = rw q (sound job 0);
      range = ap in_range e ∙ start_kept;
      size = z;
      few = let l = fields_few job 0 in rw q (omega arith);
      marked = unset (job_width job);
      total = p.0;
      passes = rw (q, e) (precheck_passed job p.0 p.1).1;
    }

-- what the walk answers and leaves
abbrev Left : List ℕ → State → Result ℕ Refused → State → Type 0
Left job s₀ o s = (o ≡ (execute job (fields_from job 0) start s₀ 0).outcome) × (s ≡ (execute job (fields_from job 0) start s₀ 0).state)

left : (job : List ℕ) (s₀ : State) (o : Result ℕ Refused) (s : State) → ran o s ≡ execute job (fields_from job 0) start s₀ 0 → Left job s₀ o s
left job s₀ o s e = (ap (λ (r : Ran). r.outcome) e, ap (λ (r : Ran). r.state) e)

module _ {job : List ℕ} {s₀ : State} {c : Control} {n : ℕ} {s : State} {fs : List Field} (t : Running job s₀ c n s fs) where
  pub running_end : fs ≡ [] → Left job s₀ (Ok n) s
  running_end e = left job s₀ (Ok n) s (sym (execute_none job c s n) ∙ sym (ap (λ (gs : List Field). execute job gs c s n) e) ∙ t.same)

  -- f is the first of them, of kind k, and gs are the others
  module _ {f : Field} {gs : List Field} (e : fs ≡ f ∷ gs) {k : Result Kind Cause} (q : f.kind ≡ k) where
    sounds : EachField (Sound job) (f ∷ gs)
    sounds = subst (EachField (Sound job)) e t.sound

    in_range_lem : InRange k
    in_range_lem = subst InRange q sounds.0.range

    here : execute job (f ∷ gs) c s n ≡ execute job (fields_from job 0) start s₀ 0
    here = sym (ap (λ (hs : List Field). execute job hs c s n) e) ∙ t.same

    -- it breaks no rule, and those after it pass
    ahead : (lowest (field_rules c t.marked f.kind) ≡ Ok tt)
        × (check_from job gs (field_control job c f.place f.kind) (field_marks c t.marked f.kind) (n + issue_of f.kind) ≡ Ok t.total)
    ahead = check_passed job f gs c t.marked n t.total (ap (λ (hs : List Field). check_from job hs c t.marked n) (sym e) ∙ t.passes)

    unbroken : lowest (field_rules c t.marked k) ≡ Ok tt
    unbroken = ap (λ (x : Result Kind Cause). lowest (field_rules c t.marked x)) (sym q) ∙ ahead.0

    pub turn_on : {c' : Control} {s' : State} {n' : ℕ} → c' ≡ field_control job c f.place k → s' ≡ performed job c f.place k s → n' ≡ n + issue_of k
        → Running job s₀ c' n' s' gs
    turn_on ce se i =
        let kept = control_same c t.marked t.range s t.size job f.place k in_range_lem unbroken in
        record {
          same = rw (ce, ← kept, se, i, ← q) (sym (execute_next job f gs c s n)) ∙ here;
          sound = sounds.1;
          range = ap in_range (ce ∙ ap (field_control job c f.place) (sym q)) ∙ control_kept job c f t.range sounds.0;
          size = rw se (performed_sizes job c f.place k s t.size);
          few = omega (arith, i, issue_most k, t.few, ap length e);
          marked = field_marks c t.marked f.kind;
          total = t.total;
          passes = rw (ce, i, ← q) ahead.1;
        }

  -- f is an issue field, the first of them, and o are the operands of its word
  pub issue_on : {f : Field} {gs : List Field} → fs ≡ f ∷ gs → {g w : ℕ} → f.kind ≡ Ok (kind.Issue g w)
      → {o : Operands} → o ≡ acting w → {s' : State} → s' ≡ acted c g o s → {c' : Control} → c' ≡ record_after c g o → Running job s₀ c' (n + 1) s' gs
  unfolding field_control performed control_after
  issue_on {f} e {g} {w} q {o} oe {s'} se {c'} ce =
      let j : judgement c g w ≡ Ok tt = issue_judged c t.marked g w (unbroken e q) in
      let l = Step.performed_done c g w s (sized_of s t.size) t.range (in_range_lem e q) o (judged_read c g w j ∙ ap Ok (sym oe)) c refl (Ok tt)
      (sym (judged_operands c g w j) ∙ ap (λ (x : Operands). lowest (operand_rules c g x)) (sym oe)) s' se refl c' ce in
      turn_on e q (ce ∙ ap (record_after c g) oe) l.state refl

-- ---- the run's answer

module _ (job : List ℕ) (s : State) where
  pub run_unsized : sized s ≡ false → run_of job s ≡ ran (Err (refused_at StateLength 0)) s
  unfolding run_of
  run_unsized z = simp z

  module _ (z : sized s ≡ true) where
    pub run_refused : (r : Refusal) (place : ℕ) → precheck_of job ≡ Err (refused_at r place) → run_of job s ≡ ran (Err (refused_at r place)) s
    unfolding run_of
    run_refused r place e = simp (z, e)

    pub run_passed : (n : ℕ) → precheck_of job ≡ Ok n → run_of job s ≡ execute job (fields_from job 0) start s 0
    unfolding run_of
    run_passed n e = simp (z, e)

-- the answer in numbers goes by the answer
pub answered : (job : List ℕ) (s : State) (o : Result ℕ Refused) (after : State) (x : Ran) → run_of job s ≡ x → o ≡ x.outcome → after ≡ x.state
    → (o ≡ (run_of job s).outcome) × (after ≡ (run_of job s).state) × (outcome_answer o ≡ run_answer job s)
unfolding run_answer
answered job s o after x e a b =
    let q : o ≡ (run_of job s).outcome = a ∙ sym (ap (λ (r : Ran). r.outcome) e) in
    (q, b ∙ sym (ap (λ (r : Ran). r.state) e), ap outcome_answer q)
