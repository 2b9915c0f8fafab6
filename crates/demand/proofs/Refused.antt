-- What the walk of the pre-check says of the rules that the fields break. Assumes nothing.
use Rattle.std.specs.Prelude.{Result, Ok, Err, ⊤}
use mathlib.Core.Path.{◌≡◌, refl}
use mathlib.Core.Bool.{true, false}
use mathlib.Core.List.{List, [], ◌∷◌}
use Prim.Native.Nat.{ℕ, zero, suc, ◌+◌, ◌<◌}
use native.Mathlib.Nat.{le_of_suc-le-suc, not-suc-le-zero}
use native.Mathlib.Omega.{arith}
use Rattle.cells.specs.Tests.{one_of}
use Rattle.word.specs.Refusal.{number_of}
use Rattle.word.specs.declared.Refusal.{Refusal}
use Rattle.control.specs.declared.Control.{Control}
use Rattle.rules.specs.Rules.{lowest}
use Rattle.job.specs.declared.Field.{Field}
use Rattle.precheck.specs.Marks.{Marks}
use Rattle.precheck.specs.Judging.{field_rules}
use Rattle.walk.specs.FieldRecord.{field_control}
use Rattle.precheck.specs.Marking.{field_marks}
use Rattle.walk.specs.FieldRecord.{issue_of}
use Rattle.precheck.specs.Check.{unless_broken, check_from}
use Rattle.demand.specs.Breaks.{breaks, FirstBroken}
use Rattle.demand.specs.Demand.{field_numbers}
use Rattle.demand.proofs.Rules.{none_broken, Lowest, lowest_is, lowest_numbered, rules_rise, rules_numbered}
use Rattle.precheck.proofs.Checking.{check_passed}
use Rattle.word.specs.declared.Refused.{Refused}
use Rattle.word.specs.Refusal.{refused_at}
use Rattle.word.proofs.Passing.{same_refused}

module _ (job : List ℕ) where
  -- a walk that passes meets no broken rule
  pub none_breaks : (fs : List Field) (c : Control) (m : Marks) (n q : ℕ) → check_from job fs c m n ≡ Ok q → (k : ℕ) (j : Refusal) → breaks job c m fs k j ≡ false
  unfolding breaks
  none_breaks [] c m n q e k j = refl
  none_breaks (f ∷ fs) c m n q e zero j = none_broken (field_rules c m f.kind) (check_passed job f fs c m n q e).0 j
  none_breaks (f ∷ fs) c m n q e (suc k) j =
      none_breaks fs (field_control job c f.place f.kind) (field_marks c m f.kind) (n + issue_of f.kind) q (check_passed job f fs c m n q e).1 k j

  -- the field itself breaks the rule
  here : (f : Field) (fs : List Field) (c : Control) (m : Marks) (r : Refusal) → Lowest (field_rules c m f.kind) r
      → FirstBroken job c m (f ∷ fs) r f.place
  unfolding breaks
  here f fs c m r l = record { index = 0; place = refl; breaking = l.broken; lowest = l.lower; first = λ i j h. absurd (not-suc-le-zero h) }

  -- a field further on does
  further : (f : Field) (fs : List Field) (c : Control) (m : Marks) (n : Refusal) (p : ℕ) → lowest (field_rules c m f.kind) ≡ Ok tt
      → FirstBroken job (field_control job c f.place f.kind) (field_marks c m f.kind) fs n p → FirstBroken job c m (f ∷ fs) n p
  unfolding breaks
  further f fs c m n p e b =
      record {
        index = suc b.index;
        place = b.place;
        breaking = b.breaking;
        lowest = b.lowest;
        first = λ i j. elim i as (λ (k : ℕ). k < suc b.index → breaks job c m (f ∷ fs) k j ≡ false) [ zero ↦ λ h. none_broken (field_rules c m f.kind) e j | suc k ↦ λ h. b.first k j (le_of_suc-le-suc h) ];
      }

  -- the refusal stands where the first rule is broken, by that field's first in rank, with one of the numbers 2 to 8
  abbrev pub Told : List Field → Control → Marks → Refusal → ℕ → Type 0
  Told fs c m r p = FirstBroken job c m fs r p × (one_of (number_of r) field_numbers ≡ true)

  pub first_breaks : (fs : List Field) (c : Control) (m : Marks) (n : ℕ) (r : Refusal) (p : ℕ) → check_from job fs c m n ≡ Err (refused_at r p) → Told fs c m r p
  unfolding check_from
  first_breaks [] c m n r p e = absurd (let z : ◌≡◌ {A = ℕ} 0 1 = cc in omega arith)
  first_breaks (f ∷ fs) c m n r p e =
      go (lowest (field_rules c m f.kind)) refl e
      (first_breaks fs (field_control job c f.place f.kind) (field_marks c m f.kind) (n + issue_of f.kind) r p)
    where
      go : {next : Result ℕ Refused} (v : Result ⊤ Refusal) → lowest (field_rules c m f.kind) ≡ v → unless_broken v f.place next ≡ Err (refused_at r p)
          → (next ≡ Err (refused_at r p) → Told fs (field_control job c f.place f.kind) (field_marks c m f.kind) r p) → Told (f ∷ fs) c m r p
      go (Ok u) l e i = let b = i e in (further f fs c m r p l b.0, b.1)
      go (Err x) l e i =
          let u = same_refused e in
          let b = lowest_is 0 (field_rules c m f.kind) x (rules_rise c m f.kind) l in
          (rw (← u.0, ← u.1) (here f fs c m x b), rw (← u.0) (lowest_numbered field_numbers (field_rules c m f.kind) x (rules_numbered c m f.kind) l))
