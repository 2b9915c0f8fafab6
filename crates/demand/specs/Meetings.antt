-- Document 01, "What the proofs have to shut out": the first field gets the start record and the lent numbers, each later one what the one before it left.
-- What each field of a job meets in a run, that none is refused there, and how many single steps are done. Definitions only.
use Rattle.std.specs.Prelude.{◌≡◌, false, List, [], ◌∷◌, ℕ, zero, suc, ◌+◌, Result, Ok, Err, Option, None, Some}
use Rattle.cells.specs.State.{State}
use Rattle.word.specs.declared.Refusal.{Refusal}
use Rattle.control.specs.declared.Control.{Control}
use Rattle.step.specs.Step.{verdict_of, if_done, stepped_of, state_of}
use Rattle.job.specs.declared.Cause.{Cause}
use Rattle.job.specs.declared.Kind.{Kind}
use Rattle.job.specs.declared.Kind.TheVariants as kind
use Rattle.job.specs.declared.Field.{Field}
use Rattle.precheck.specs.Marks.{Marks}
use Rattle.precheck.specs.Judging.{field_rules}
use Rattle.precheck.specs.Marking.{field_marks}
use Rattle.run.specs.Perform.{performed, control_on}
use Rattle.demand.specs.Breaks.{broken_rule}

-- a field, and the record, the marks and the lent numbers that the fields before it leave
pub record Meeting : Type 0 where
  pub field : Field
  pub control : Control
  pub marks : Marks
  pub state : State

-- what field k meets, the first of the list meeting c, m and s; after an instruction the record is the one that the single step gives back
-- (`control_on`)
unfoldable pub meeting_at : List ℕ → List Field → Control → Marks → State → ℕ → Option Meeting
meeting_at job [] c m s k = None
meeting_at job (f ∷ fs) c m s zero = Some (record { field = f; control = c; marks = m; state = s })
meeting_at job (f ∷ fs) c m s (suc k) =
    meeting_at job fs (control_on job c f.place f.kind s) (field_marks c m f.kind) (performed job c f.place f.kind s) k

-- a field is not refused: it breaks no rule, and the single step of an instruction is done
pub record Goes (x : Meeting) : Type 0 where
  pub unbroken : (r : Refusal) → broken_rule r (field_rules x.control x.marks x.field.kind) ≡ false
  pub done : (t w : ℕ) → x.field.kind ≡ Ok (kind.Issue t w) → verdict_of x.control t w x.state ≡ Ok tt

-- the lent numbers after it
abbrev pub leaves : List ℕ → Meeting → State
leaves job x = performed job x.control x.field.place x.field.kind x.state

-- what the single step of an instruction gives back, record and lent numbers, is what the next field meets
pub record StepsOn (x y : Meeting) : Type 0 where
  pub control : (t w : ℕ) → x.field.kind ≡ Ok (kind.Issue t w) → y.control ≡ (stepped_of x.control t w x.state).control
  pub state : (t w : ℕ) → x.field.kind ≡ Ok (kind.Issue t w) → y.state ≡ state_of x.control t w x.state

-- 1 for an instruction whose single step is done
abbrev pub done_of : Control → Result Kind Cause → State → ℕ
done_of c (Ok kind.Settings) s = 0
done_of c (Ok (kind.Issue t w)) s = if_done (verdict_of c t w s) 1 0
done_of c (Ok (kind.HandOver file)) s = 0
done_of c (Ok (kind.Writes x)) s = 0
done_of c (Ok (kind.Prints o)) s = 0
done_of c (Err x) s = 0

-- how many of the fields are such instructions, each on the record and the lent numbers that the fields before it leave
unfoldable pub steps_done : List ℕ → List Field → Control → State → ℕ
steps_done job [] c s = 0
steps_done job (f ∷ fs) c s = done_of c f.kind s + steps_done job fs (control_on job c f.place f.kind s) (performed job c f.place f.kind s)
