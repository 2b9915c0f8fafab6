-- Which field of a job breaks which rule, counted by definitions of their own. Definitions only.
use Rattle.std.specs.Prelude.{◌≡◌, Bool, true, false, cond, ◌&&◌, ◌||◌, List, [], ◌∷◌, map, ℕ, zero, suc, ◌<◌, eqb, get_or, Result, Ok, Err}
use Rattle.word.specs.Refusal.{number_of, rank_of}
use Rattle.word.specs.declared.Refusal.{Refusal}
use Rattle.control.specs.declared.Control.{Control}
use Rattle.rules.specs.Rules.{Judged}
use Rattle.job.specs.declared.Cause.{Cause}
use Rattle.job.specs.declared.Kind.{Kind}
use Rattle.job.specs.declared.Kind.TheVariants as kind
use Rattle.job.specs.declared.Field.{Field}
use Rattle.precheck.specs.Marks.{Marks}
use Rattle.walk.specs.FieldRecord.{field_control}
use Rattle.precheck.specs.Judging.{field_rules}
use Rattle.precheck.specs.Marking.{field_marks}

-- rule r is among those broken
unfoldable pub broken_rule : Refusal → List Judged → Bool
broken_rule r [] = false
broken_rule r (b ∷ bs) = (eqb (number_of b.rule) (number_of r) && b.broken) || broken_rule r bs

-- field k breaks rule r, judged on the record and the marks that the fields before it leave
unfoldable pub breaks : List ℕ → Control → Marks → List Field → ℕ → Refusal → Bool
breaks job c m [] k r = false
breaks job c m (f ∷ fs) zero r = broken_rule r (field_rules c m f.kind)
breaks job c m (f ∷ fs) (suc k) r = breaks job (field_control job c f.place f.kind) (field_marks c m f.kind) fs k r

-- p is the place of the first field that breaks a rule, and r the first in rank that it breaks: the lowest number (`Ranks`)
pub record FirstBroken (job : List ℕ) (c : Control) (m : Marks) (fs : List Field) (r : Refusal) (p : ℕ) : Type 0 where
  pub index : ℕ
  pub place : get_or (map (λ (f : Field). f.place) fs) index 0 ≡ p
  pub breaking : breaks job c m fs index r ≡ true
  pub lowest : (q : Refusal) → rank_of q < rank_of r → breaks job c m fs index q ≡ false
  pub first : (i : ℕ) (q : Refusal) → i < index → breaks job c m fs i q ≡ false

abbrev pub is_issue : Result Kind Cause → Bool
is_issue (Ok kind.Settings) = false
is_issue (Ok (kind.Issue t w)) = true
is_issue (Ok (kind.HandOver file)) = false
is_issue (Ok (kind.Writes x)) = false
is_issue (Ok (kind.Prints o)) = false
is_issue (Err x) = false

-- the number of issue fields
unfoldable pub issue_fields : List Field → ℕ
issue_fields [] = 0
issue_fields (f ∷ fs) = cond (is_issue f.kind) (suc (issue_fields fs)) (issue_fields fs)
