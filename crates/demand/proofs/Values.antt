-- Other values in the load fields leave the pre-check's answer as it is. Assumes nothing.
use mathlib.Core.Path.{◌≡◌, refl}
use mathlib.Core.Bool.{Bool}
use mathlib.Core.List.{List, [], ◌∷◌}
use Prim.Native.Nat.{ℕ, ◌+◌}
use Rattle.std.specs.Prelude.{Result, Ok, Err}
use Rattle.control.specs.declared.Control.{Control}
use Rattle.control.specs.Record.{start}
use Rattle.job.specs.declared.Cause.{Cause}
use Rattle.job.specs.Fields.{job_width, settled_at, fields_from, EachField}
use Rattle.job.specs.Values.{OtherValues}
use Rattle.job.specs.declared.Kind.{Kind}
use Rattle.job.specs.declared.Kind.TheVariants as kind
use Rattle.job.specs.declared.Field.{Field}
use Rattle.job.proofs.Loaded.{values_width, values_fields, values_shape, values_settled}
use Rattle.precheck.specs.Marks.{Marks, unset}
use Rattle.walk.specs.FieldRecord.{field_control}
use Rattle.precheck.specs.Marking.{field_marks}
use Rattle.walk.specs.FieldRecord.{issue_of}
use Rattle.precheck.specs.Check.{check_from, precheck_of}

module _ (job other : List ℕ) where
  -- of a job's bytes a field's control record asks for the settings alone
  control_same : (c : Control) (place : ℕ) (k : Result Kind Cause) → (k ≡ Ok kind.Settings → (d : Control) → settled_at other d place ≡ settled_at job d place)
      → field_control other c place k ≡ field_control job c place k
  unfolding field_control
  control_same c place (Ok kind.Settings) h = h refl c
  control_same c place (Ok (kind.Issue t w)) h = refl
  control_same c place (Ok (kind.HandOver file)) h = refl
  control_same c place (Ok (kind.Writes x)) h = refl
  control_same c place (Ok (kind.Prints o)) h = refl
  control_same c place (Err x) h = refl

  walk_same : (fs : List Field) (c : Control) (m : Marks) (n : ℕ)
      → EachField (λ f. f.kind ≡ Ok kind.Settings → (d : Control) → settled_at other d f.place ≡ settled_at job d f.place) fs → check_from other fs c m n ≡ check_from job fs c m n
  unfolding check_from
  walk_same [] c m n h = refl
  walk_same (f ∷ fs) c m n h =
      rw (control_same c f.place f.kind h.0, walk_same fs (field_control job c f.place f.kind) (field_marks c m f.kind) (n + issue_of f.kind) h.1)

  pub values_same : (test : Field → Bool) → OtherValues test job other → precheck_of other ≡ precheck_of job
  unfolding precheck_of
  values_same test o =
      rw (values_width test job other o, values_fields test job other o, values_shape test job other o, walk_same (fields_from job 0) start (unset (job_width job)) 0 (values_settled test job other o))
