-- The pre-check's walk, a field at a time, and its answer. Assumes nothing.
use mathlib.Core.Path.{◌≡◌, refl, sym, ◌∙◌, ap}
use mathlib.Core.Bool.{Bool}
use mathlib.Core.List.{List, [], ◌∷◌}
use Prim.Native.Nat.{ℕ, ◌+◌, ◌≤◌}
use native.Mathlib.Omega.{arith}
use lib.ListN.{length}
use Rattle.std.specs.Prelude.{⊤, Result, Ok, Err}
use Rattle.word.specs.Word.{read_word}
use Rattle.word.specs.declared.Operands.{Operands}
use Rattle.word.specs.declared.Refusal.{Refusal}
use Rattle.word.specs.declared.Refusal.TheVariants as refusal
use Rattle.control.specs.declared.Control.{Control}
use Rattle.control.specs.Record.{start}
use Rattle.rules.specs.After.{record_after}
use Rattle.rules.specs.Rules.{◌when◌, rules, lowest, judgement}
use Rattle.rules.proofs.Reading.{parts_done}
use Rattle.job.specs.declared.Cause.{Cause}
use Rattle.job.specs.Fields.{job_width, fields_from, EachField}
use Rattle.job.specs.Shape.{wrong_at, shape_of}
use Rattle.job.specs.declared.WrongAt.{WrongAt}
use Rattle.job.specs.declared.Kind.{Kind}
use Rattle.job.specs.declared.Kind.TheVariants.{Issue}
use Rattle.job.specs.declared.Field.{Field}
use Rattle.job.proofs.Walk.{fields_few}
use Rattle.walk.specs.FieldRecord.{field_control, issue_of}
use Rattle.walk.proofs.RecordKept.{issue_most}
use Rattle.precheck.specs.Marks.{Marks, marks, unset_but, unset}
use Rattle.precheck.specs.Judging.{unset_read, field_rules}
use Rattle.precheck.specs.Marking.{field_marks}
use Rattle.precheck.specs.Instruction.{InstructionChecked}
use Rattle.precheck.specs.Check.{unless_broken, check_from, unless_wrong, precheck_of, checked_answer, precheck_answer}
use Rattle.precheck.proofs.Judged.{rules_by, marks_by, control_by}
use Rattle.word.specs.declared.Refused.{Refused}
use Rattle.word.specs.Refusal.{refused_at}

-- ---- over a list of fields

pub check_none : (job : List ℕ) (c : Control) (m : Marks) (n : ℕ) → check_from job [] c m n ≡ Ok n
unfolding check_from
check_none job c m n = refl

module _ (job : List ℕ) (f : Field) (fs : List Field) (c : Control) (m : Marks) (n : ℕ) where
  pub check_broken : (r : Refusal) → lowest (field_rules c m f.kind) ≡ Err r → check_from job (f ∷ fs) c m n ≡ Err (refused_at r f.place)
  unfolding check_from
  check_broken r e = rw e

  pub check_next : lowest (field_rules c m f.kind) ≡ Ok tt
      → check_from job (f ∷ fs) c m n ≡ check_from job fs (field_control job c f.place f.kind) (field_marks c m f.kind) (n + issue_of f.kind)
  unfolding check_from
  check_next e = rw e

  -- where all passed, this field broke no rule, and the others passed
  pub check_passed : (k : ℕ) → check_from job (f ∷ fs) c m n ≡ Ok k
      → (lowest (field_rules c m f.kind) ≡ Ok tt)
      × (check_from job fs (field_control job c f.place f.kind) (field_marks c m f.kind) (n + issue_of f.kind) ≡ Ok k)
  unfolding check_from
  check_passed k e = go (lowest (field_rules c m f.kind)) _ e
    where
      go : (v : Result ⊤ Refusal) (next : Result ℕ Refused) → unless_broken v f.place next ≡ Ok k → (v ≡ Ok tt) × (next ≡ Ok k)
      go (Ok u) next e = (refl, e)
      go (Err r) next e = absurd (let z : ◌≡◌ {A = ℕ} 0 1 = cc in omega arith)

-- an instruction that broke no rule broke none of the single step's
pub issue_judged : (c : Control) (m : Marks) (t w : ℕ) → lowest (field_rules c m (Ok (Issue t w))) ≡ Ok tt → judgement c t w ≡ Ok tt
unfolding field_rules judgement
issue_judged c m t w h = (parts_done (rules c t w) ((refusal.UnsetRead when unset_read c m t w) ∷ []) h).0

-- what each field has that breaks a rule, the one that is named has
pub check_has : (P : Refusal → ℕ → Type 0) (job : List ℕ) (fs : List Field)
    → EachField (λ f. (c : Control) (m : Marks) (r : Refusal) → lowest (field_rules c m f.kind) ≡ Err r → P r f.place) fs
    → (c : Control) (m : Marks) (n : ℕ) (r : Refusal) (p : ℕ) → check_from job fs c m n ≡ Err (refused_at r p) → P r p
unfolding check_from
check_has P job [] h c m n r p e = absurd (let z : ◌≡◌ {A = ℕ} 0 1 = cc in omega arith)
check_has P job (f ∷ fs) h c m n r p e =
    go (lowest (field_rules c m f.kind)) refl e
    (check_has P job fs h.1 (field_control job c f.place f.kind) (field_marks c m f.kind) (n + issue_of f.kind) r p)
  where
    go : {next : Result ℕ Refused} (v : Result ⊤ Refusal) → lowest (field_rules c m f.kind) ≡ v → unless_broken v f.place next ≡ Err (refused_at r p) → (next ≡ Err (refused_at r p) → P r p) → P r p
    go (Ok u) l e i = i e
    go (Err x) l e i =
        let w : refused_at x f.place ≡ refused_at r p = cc in
        let s : x ≡ r = ap (λ (e : Refused). e.refusal) w in
        let q : f.place ≡ p = ap (λ (e : Refused). e.place) w in
        rw (← s, ← q) (h.0 c m x l)

-- ---- the walk's loop

-- d₀ are Dst's marks at the start, d those here, and fs the fields that are left: what the walk answers on them is what it answers on all
pub record Checking (job : List ℕ) (d₀ a b d r : List Bool) (c : Control) (n : ℕ) (fs : List Field) : Type 0 where
  pub same : check_from job fs c (marks a b d r) n ≡ check_from job (fields_from job 0) start (unset_but d₀) 0
  pub long : length d ≡ length d₀
  pub few : n + length fs ≤ length job

pub checking_first : {job : List ℕ} {d : List Bool} {c : Control} {a b r : List Bool} {fs : List Field} → fs ≡ fields_from job 0 → c ≡ start → marks a b d r ≡ unset_but d
    → Checking job d a b d r c 0 fs
checking_first {job} q e m =
    record { same = rw (q, e, m) refl; long = refl; few = let l = fields_few job 0 in rw q (omega arith) }

module _ {job : List ℕ} {d₀ a b d r : List Bool} {c : Control} {n : ℕ} {fs : List Field} (t : Checking job d₀ a b d r c n fs) where
  pub checking_end : fs ≡ [] → Ok n ≡ check_from job (fields_from job 0) start (unset_but d₀) 0
  checking_end e =
      sym (check_none job c (marks a b d r) n) ∙ sym (ap (λ (gs : List Field). check_from job gs c (marks a b d r) n) e) ∙ t.same

  -- f is the first of them, of kind k, and gs are the others
  module _ {f : Field} {gs : List Field} (e : fs ≡ f ∷ gs) {k : Result Kind Cause} (q : f.kind ≡ k) where
    here : check_from job (f ∷ gs) c (marks a b d r) n ≡ check_from job (fields_from job 0) start (unset_but d₀) 0
    here = sym (ap (λ (hs : List Field). check_from job hs c (marks a b d r) n) e) ∙ t.same

    pub turn_stop : {x : Refusal} → lowest (field_rules c (marks a b d r) k) ≡ Err x → {p : Refused} → p ≡ refused_at x f.place → Err p ≡ check_from job (fields_from job 0) start (unset_but d₀) 0
    turn_stop {x} v w = ap Err w ∙ sym (check_broken job f gs c (marks a b d r) n x (rw q v)) ∙ here

    -- what the code makes of the record, of the marks and of the count
    pub turn_on : lowest (field_rules c (marks a b d r) k) ≡ Ok tt → {c' : Control} {a' b' d' r' : List Bool} {n' : ℕ} → c' ≡ field_control job c f.place k → marks a' b' d' r' ≡ field_marks c (marks a b d r) k → length d' ≡ length d → n' ≡ n + issue_of k
        → Checking job d₀ a' b' d' r' c' n' gs
    turn_on v ce m l i =
        record {
          same = rw (ce, m, i, ← q) (sym (check_next job f gs c (marks a b d r) n (rw q v))) ∙ here;
          long = l ∙ t.long;
          few = omega (arith, i, issue_most k, t.few, ap length e);
        }

  -- the word of an issue field was read as x, and the instruction o passed
  pub issue_on : {f : Field} {gs : List Field} → fs ≡ f ∷ gs → {u w : ℕ} → f.kind ≡ Ok (Issue u w)
      → {x : Result Operands Refusal} → x ≡ read_word w → {o : Operands} → x ≡ Ok o
      → {v : Result ⊤ Refusal} {a' b' r' : List Bool} → InstructionChecked c (marks a b d r) u o v (marks a' b' d r') → v ≡ Ok tt
      → {c' : Control} → c' ≡ record_after c u o → Checking job d₀ a' b' d r' c' (n + 1) gs
  unfolding field_control
  issue_on e {u} {w} q ex eo s p ec =
      turn_on e q (rules_by c (marks a b d r) u w ex eo s.verdict ∙ p) (control_by c u w ex eo ec)
      (marks_by c (marks a b d r) u w ex eo (s.marked p)) refl refl

-- ---- the shape first

pub precheck_right : (job : List ℕ) → shape_of job ≡ Ok tt → precheck_of job ≡ check_from job (fields_from job 0) start (unset (job_width job)) 0
unfolding precheck_of
precheck_right job e = rw e

pub precheck_wrong : (job : List ℕ) (place : ℕ) → shape_of job ≡ wrong_at place → precheck_of job ≡ Err (refused_at refusal.Shape place)
unfolding precheck_of
precheck_wrong job place e = rw e

pub precheck_passed : (job : List ℕ) (k : ℕ) → precheck_of job ≡ Ok k → (shape_of job ≡ Ok tt) × (check_from job (fields_from job 0) start (unset (job_width job)) 0 ≡ Ok k)
unfolding precheck_of
precheck_passed job k e = go (shape_of job) _ e
  where
    go : (s : Result ⊤ WrongAt) (next : Result ℕ Refused) → unless_wrong s next ≡ Ok k → (s ≡ Ok tt) × (next ≡ Ok k)
    go (Ok x) next e = (refl, e)
    go (Err wrong) next e = absurd (let z : ◌≡◌ {A = ℕ} 0 1 = cc in omega arith)

-- the answer in numbers goes by the answer
pub answered : (job : List ℕ) (r : Result ℕ Refused) → r ≡ precheck_of job → (r ≡ precheck_of job) × (checked_answer r ≡ precheck_answer job)
unfolding precheck_answer
answered job r e = (e, ap checked_answer e)
