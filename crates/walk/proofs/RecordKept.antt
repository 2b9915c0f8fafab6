-- The control record after a field: a record in range stays in range, and only the settings field changes its settings. Assumes nothing.
use mathlib.Core.Path.{◌≡◌, refl, ap, ◌∙◌}
use mathlib.Core.Bool.{true}
use mathlib.Core.List.{List}
use Prim.Native.Nat.{ℕ, ◌≤◌}
use native.Mathlib.Omega.{arith}
use Rattle.std.specs.Prelude.{Result, Ok, Err}
use Rattle.cells.specs.declared.layout.File.{File}
use Rattle.cells.specs.declared.layout.File.TheVariants.{A, B}
use Rattle.control.specs.declared.Control.{Control}
use Rattle.control.specs.Range.{in_range}
use Rattle.control.proofs.StaysInRange.{hand_kept_a, hand_kept_b}
use Rattle.rules.specs.After.{acting, control_after}
use Rattle.rules.proofs.AfterKeeps.{control_after_kept, record_after_settings}
use Rattle.job.specs.declared.Cause.{Cause}
use Rattle.job.specs.Fields.{payload_at}
use Rattle.job.specs.declared.Kind.{Kind}
use Rattle.job.specs.declared.Kind.TheVariants.{Settings, Issue, HandOver, Writes, Prints}
use Rattle.job.specs.declared.Field.{Field}
use Rattle.job.proofs.Shaped.{Sound}
use Rattle.job.proofs.Settled.{right_kept, settings_field_lem}
use Rattle.walk.specs.FieldRecord.{handed_over, field_control, issue_of}

-- ---- in range

hand_kept : (c : Control) (file : File) → in_range c ≡ true → in_range (handed_over c file) ≡ true
hand_kept c A h = hand_kept_a c h
hand_kept c B h = hand_kept_b c h

pub control_kept : (job : List ℕ) (c : Control) (f : Field) → in_range c ≡ true → Sound job f → in_range (field_control job c f.place f.kind) ≡ true
unfolding field_control
control_kept job c f h s = go f.kind refl
  where
    go : (k : Result Kind Cause) → f.kind ≡ k → in_range (field_control job c f.place k) ≡ true
    go (Ok Settings) e =
        let x = settings_field_lem job f s e in
        ap in_range (x.settles c) ∙ right_kept c (payload_at job f.place) h x.right
    go (Ok (Issue t w)) e = control_after_kept c t w h
    go (Ok (HandOver file)) e = hand_kept c file h
    go (Ok (Writes x)) e = h
    go (Ok (Prints o)) e = h
    go (Err x) e = h

-- ---- the settings

hand_settings : (c : Control) (file : File) → (handed_over c file).settings ≡ c.settings
hand_settings c A = refl
hand_settings c B = refl

pub settings_stay : (job : List ℕ) (c : Control) (place : ℕ) (k : Result Kind Cause) → (k ≡ Ok Settings → ⊥) → (field_control job c place k).settings ≡ c.settings
unfolding field_control control_after
settings_stay job c place (Ok Settings) n = absurd (n refl)
settings_stay job c place (Ok (Issue t w)) n = record_after_settings c t (acting w)
settings_stay job c place (Ok (HandOver file)) n = hand_settings c file
settings_stay job c place (Ok (Writes x)) n = refl
settings_stay job c place (Ok (Prints o)) n = refl
settings_stay job c place (Err x) n = refl

-- ---- at most one issue to a field

pub issue_most : (k : Result Kind Cause) → issue_of k ≤ 1
issue_most (Ok Settings) = omega arith
issue_most (Ok (Issue t w)) = omega arith
issue_most (Ok (HandOver file)) = omega arith
issue_most (Ok (Writes x)) = omega arith
issue_most (Ok (Prints o)) = omega arith
issue_most (Err x) = omega arith
