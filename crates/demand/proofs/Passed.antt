-- A walk of the pre-check that passes: its count, and what the job run then does over two states that agree. Assumes nothing.
use mathlib.Core.Path.{◌≡◌, refl, sym, ap, ap₂, subst, ◌∙◌}
use mathlib.Core.Bool.{true, cond}
use mathlib.Core.List.{List, [], ◌∷◌, ◌++◌, map}
use Prim.Native.Nat.{ℕ, zero, suc, ◌+◌, ◌<◌}
use native.Mathlib.Omega.{arith}
use lib.ListN.{length, get_or}
use Rattle.std.specs.Prelude.{Result, Ok, Err, None, Some}
use Rattle.cells.specs.declared.Width.{Width}
use Rattle.control.specs.declared.Control.{Control}
use Rattle.control.specs.Range.{in_range}
use Rattle.rules.specs.Rules.{lowest}
use Rattle.cells.specs.State.{State}
use Rattle.cells.proofs.Sizes.{Sizes}
use Rattle.job.specs.declared.Cause.{Cause}
use Rattle.job.specs.Fields.{payload_at, job_width, EachField}
use Rattle.job.specs.declared.Kind.{Kind}
use Rattle.job.specs.declared.Kind.TheVariants as kind
use Rattle.job.specs.declared.Field.{Field}
use Rattle.job.specs.Range.{InRange}
use Rattle.job.proofs.Shaped.{Sound}
use Rattle.precheck.specs.Marks.{Marks}
use Rattle.precheck.specs.Judging.{field_rules}
use Rattle.walk.specs.FieldRecord.{field_control}
use Rattle.precheck.specs.Marking.{field_marks}
use Rattle.walk.specs.FieldRecord.{issue_of}
use Rattle.precheck.specs.Check.{check_from}
use Rattle.precheck.proofs.Checking.{check_passed}
use Rattle.run.specs.Perform.{performed, control_on}
use Rattle.run.proofs.Performs.{performed_sizes}
use Rattle.run.specs.Run.{Ran, execute}
use Rattle.run.proofs.Running.{step_done, control_same, execute_next}
use Rattle.lines.specs.Lines.{lines_from}
use Rattle.demand.specs.Breaks.{is_issue, issue_fields}
use Rattle.demand.specs.Meetings.{Meeting, meeting_at, Goes, leaves, StepsOn, done_of, steps_done}
use Rattle.demand.proofs.Rules.{none_broken}
use Rattle.demand.proofs.MarksStay.{Stays, stays, stays_on, marks_stay}
use Rattle.walk.proofs.RecordKept.{control_kept}
use Rattle.demand.proofs.Agreement.{Agree}
use Rattle.demand.proofs.FieldAgrees.{left_sizes, right_sizes, field_agrees}
use Rattle.demand.proofs.Lines.{lines_same}
use Rattle.demand.proofs.Widths.{Wide}

-- ---- the count

count_one : (k : Result Kind Cause) (n x : ℕ) → n + issue_of k + x ≡ n + cond (is_issue k) (suc x) x
count_one (Ok kind.Settings) n x = omega arith
count_one (Ok (kind.Issue t w)) n x = omega arith
count_one (Ok (kind.HandOver file)) n x = omega arith
count_one (Ok (kind.Writes y)) n x = omega arith
count_one (Ok (kind.Prints o)) n x = omega arith
count_one (Err y) n x = omega arith

pub counted : (job : List ℕ) (fs : List Field) (c : Control) (m : Marks) (n q : ℕ) → check_from job fs c m n ≡ Ok q → q ≡ n + issue_fields fs
unfolding check_from issue_fields
counted job [] c m n q e = let r : n ≡ q = cc in omega arith
counted job (f ∷ fs) c m n q e =
    counted job fs (field_control job c f.place f.kind) (field_marks c m f.kind) (n + issue_of f.kind) q (check_passed job f fs c m n q e).1
    ∙ count_one f.kind n (issue_fields fs)

-- ---- the run

-- a run of fs over one state beside a run over another: it finishes with the count, and both print the same
pub record Ended (w : Width) (fs : List Field) (m : Marks) (n : ℕ) (x y : Ran) : Type 0 where
  pub finished : x.outcome ≡ Ok (n + issue_fields fs)
  pub lines : lines_from fs x.state ≡ lines_from fs y.state
  pub marks : Marks
  pub stay : Stays m marks
  pub agree : Agree w marks x.state y.state

module _ (job : List ℕ) where
  -- a field that breaks no rule hands on the record that the pre-check goes by
  execute_on : (f : Field) (fs : List Field) (c : Control) (m : Marks) (s : State) (n : ℕ) → in_range c ≡ true → Sizes s → InRange f.kind → lowest (field_rules c m f.kind) ≡ Ok tt
      → execute job (f ∷ fs) c s n ≡ execute job fs (field_control job c f.place f.kind) (performed job c f.place f.kind s) (n + issue_of f.kind)
  execute_on f fs c m s n r z i h = rw (← control_same c m r s z job f.place f.kind i h) (execute_next job f fs c s n)

  pub ended : (fs : List Field) (c : Control) (m : Marks) (d e : State) (n q : ℕ) → EachField (Sound job) fs → Wide job c fs → in_range c ≡ true
      → check_from job fs c m n ≡ Ok q → Agree (job_width job) m d e → Ended (job_width job) fs m n (execute job fs c d n) (execute job fs c e n)
  unfolding execute issue_fields lines_from
  ended [] c m d e n q w x r h s = record { finished = ap Ok (omega arith); lines = refl; marks = m; stay = stays m; agree = s }
  ended (f ∷ fs) c m d e n q w x r h s =
      let k = f.kind in
      let v = job_width job in
      let tag = get_or job f.place 0 in
      let p = payload_at job f.place in
      let y = check_passed job f fs c m n q h in
      let i =
      ended fs (field_control job c f.place k) (field_marks c m k) (performed job c f.place k d) (performed job c f.place k e) (n + issue_of k) q w.1 x.1
      (control_kept job c f r w.0) y.1 (field_agrees c m r v d e s tag p job f.place k w.0.says x.0 y.0) in
      let st = stays_on m (field_marks c m k) i.marks (marks_stay c m k) i.stay in
      rw (execute_on f fs c m d n r (left_sizes s) w.0.range y.0, execute_on f fs c m e n r (right_sizes s) w.0.range y.0)
      (record {
        finished = i.finished ∙ ap Ok (count_one k n (issue_fields fs));
        lines = ap₂ ◌++◌ (lines_same v tag p c m i.marks k _ _ w.0.says y.0 st i.agree) i.lines;
        marks = i.marks;
        stay = st;
        agree = i.agree;
      })

  -- ---- no field is refused

  -- a field that breaks no rule
  goes_on : (f : Field) (c : Control) (m : Marks) (s : State) → in_range c ≡ true → Sizes s → InRange f.kind → lowest (field_rules c m f.kind) ≡ Ok tt
      → Goes (record { field = f; control = c; marks = m; state = s })
  goes_on f c m s r z i h =
      record {
        unbroken = none_broken (field_rules c m f.kind) h;
        done = λ t w e. step_done c m r s z t w (subst InRange e i) (ap (λ (k : Result Kind Cause). lowest (field_rules c m k)) (sym e) ∙ h);
      }

  pub all_go : (fs : List Field) (c : Control) (m : Marks) (s : State) (n q : ℕ) → EachField (Sound job) fs → in_range c ≡ true → check_from job fs c m n ≡ Ok q → Sizes s
      → (k : ℕ) (x : Meeting) → meeting_at job fs c m s k ≡ Some x → Goes x
  unfolding meeting_at
  all_go [] c m s n q w r h z k x e = absurd (let y : ◌≡◌ {A = ℕ} 0 1 = cc in omega arith)
  all_go (f ∷ fs) c m s n q w r h z zero x e =
      let y : record { field = f; control = c; marks = m; state = s } ≡ x = cc in
      rw (← y) (goes_on f c m s r z w.0.range (check_passed job f fs c m n q h).0)
  all_go (f ∷ fs) c m s n q w r h z (suc k) x e =
      let y = check_passed job f fs c m n q h in
      all_go fs (field_control job c f.place f.kind) (field_marks c m f.kind) (performed job c f.place f.kind s) (n + issue_of f.kind) q w.1
      (control_kept job c f r w.0) y.1 (performed_sizes job c f.place f.kind s z) k x (rw (control_same c m r s z job f.place f.kind w.0.range y.0) at e)

  -- so each instruction counts as one that is done
  done_one : (c : Control) (m : Marks) (s : State) → in_range c ≡ true → Sizes s → (k : Result Kind Cause) → InRange k → lowest (field_rules c m k) ≡ Ok tt → done_of c k s ≡ issue_of k
  done_one c m s r z (Ok kind.Settings) i h = refl
  done_one c m s r z (Ok (kind.Issue t w)) i h = rw (step_done c m r s z t w i h)
  done_one c m s r z (Ok (kind.HandOver file)) i h = refl
  done_one c m s r z (Ok (kind.Writes x)) i h = refl
  done_one c m s r z (Ok (kind.Prints o)) i h = refl
  done_one c m s r z (Err x) i h = refl

  pub all_done : (fs : List Field) (c : Control) (m : Marks) (s : State) (n q : ℕ) → EachField (Sound job) fs → in_range c ≡ true → check_from job fs c m n ≡ Ok q → Sizes s
      → steps_done job fs c s ≡ issue_fields fs
  unfolding steps_done issue_fields
  all_done [] c m s n q w r h z = refl
  all_done (f ∷ fs) c m s n q w r h z =
      let k = f.kind in
      let y = check_passed job f fs c m n q h in
      let later = all_done fs (field_control job c f.place k) (field_marks c m k) (performed job c f.place k s) (n + issue_of k) q w.1 (control_kept job c f r w.0) y.1 (performed_sizes job c f.place k s z) in
      rw (control_same c m r s z job f.place k w.0.range y.0, done_one c m s r z k w.0.range y.0, later) (omega (arith, count_one k 0 (issue_fields fs)))

  -- where no field is left, the run leaves what it has
  none_left : (fs : List Field) (c : Control) (m : Marks) (s : State) (n : ℕ) → meeting_at job fs c m s zero ≡ None → (execute job fs c s n).state ≡ s
  unfolding meeting_at execute
  none_left [] c m s n o = refl
  none_left (f ∷ fs) c m s n o = absurd (let y : ◌≡◌ {A = ℕ} 0 1 = cc in omega arith)

  -- what the last field leaves is what the run leaves
  pub all_end : (fs : List Field) (c : Control) (m : Marks) (s : State) (n k : ℕ) (x : Meeting)
      → meeting_at job fs c m s k ≡ Some x → meeting_at job fs c m s (suc k) ≡ None → (execute job fs c s n).state ≡ leaves job x
  unfolding meeting_at execute
  all_end [] c m s n k x e o = absurd (let y : ◌≡◌ {A = ℕ} 0 1 = cc in omega arith)
  all_end (f ∷ fs) c m s n zero x e o =
      let y : record { field = f; control = c; marks = m; state = s } ≡ x = cc in
      none_left fs _ (field_marks c m f.kind) (performed job c f.place f.kind s) _ o ∙ ap (leaves job) y
  all_end (f ∷ fs) c m s n (suc k) x e o = all_end fs _ _ _ _ k x e o

  -- each field is met
  pub all_met : (fs : List Field) (c : Control) (m : Marks) (s : State) (k : ℕ) → k < length fs
      → (x : Meeting) × (meeting_at job fs c m s k ≡ Some x) × (x.field.place ≡ get_or (map (λ (f : Field). f.place) fs) k 0)
  unfolding meeting_at
  all_met [] c m s k l = absurd (omega (arith, l))
  all_met (f ∷ fs) c m s zero l = (record { field = f; control = c; marks = m; state = s }, refl, refl)
  all_met (f ∷ fs) c m s (suc k) l = all_met fs _ _ _ k (omega (arith, l))

  -- ---- each instruction hands on what its single step gives back

  first_met : (fs : List Field) (c : Control) (m : Marks) (s : State) (y : Meeting) → meeting_at job fs c m s zero ≡ Some y → (y.control ≡ c) × (y.state ≡ s)
  unfolding meeting_at
  first_met [] c m s y e = absurd (let z : ◌≡◌ {A = ℕ} 0 1 = cc in omega arith)
  first_met (f ∷ fs) c m s y e = let q : record { field = f; control = c; marks = m; state = s } ≡ y = cc in rw (← q) (refl, refl)

  pub steps_on : (fs : List Field) (c : Control) (m : Marks) (s : State) (k : ℕ) (x y : Meeting)
      → meeting_at job fs c m s k ≡ Some x → meeting_at job fs c m s (suc k) ≡ Some y → StepsOn x y
  unfolding meeting_at control_on performed
  steps_on [] c m s k x y e g = absurd (let z : ◌≡◌ {A = ℕ} 0 1 = cc in omega arith)
  steps_on (f ∷ fs) c m s zero x y e g =
      let q : record { field = f; control = c; marks = m; state = s } ≡ x = cc in
      let n = first_met fs _ _ _ y g in
      rw (← q)
      (record {
        control = λ t w h. n.0 ∙ ap (λ (z : Result Kind Cause). control_on job c f.place z s) h;
        state = λ t w h. n.1 ∙ ap (λ (z : Result Kind Cause). performed job c f.place z s) h;
      })
  steps_on (f ∷ fs) c m s (suc k) x y e g = steps_on fs _ _ _ k x y e g
