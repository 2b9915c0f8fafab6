-- In a job of right shape each issue field meets a record that has the job's width: the settings come first and once, and no other field changes
-- them. Assumes nothing.
use mathlib.Core.Path.{◌≡◌, sym, ap, ◌∙◌}
use mathlib.Core.Bool.{true, false≢true}
use mathlib.Core.List.{List, [], ◌∷◌}
use Prim.Native.Nat.{ℕ, ◌≤◌, ◌<◌}
use native.Mathlib.Nat.{min-le_left}
use native.Mathlib.Omega.{arith}
use borrow.Author.Tests.{ltb-true, ltb-false}
use lib.Dec.{ltb}
use lib.ListN.{length, get_or, drop, length-take}
use lib.Seq.{get_or-drop, get_or-take}
use Rattle.std.specs.Prelude.{Ok}
use Rattle.cells.proofs.Cells.{split}
use Rattle.control.specs.declared.Control.{Control}
use Rattle.control.specs.Record.{start, width_of}
use Rattle.job.specs.Bytes.{le2}
use Rattle.job.specs.Fields.{payload_at, job_width, field_at, fields_from, EachField}
use Rattle.job.specs.Settings.{settings_bytes, settled}
use Rattle.job.specs.Shape.{shape_of}
use Rattle.job.specs.declared.Field.{Field}
use Rattle.job.proofs.Walk.{place_at, fields_step, fields_end}
use Rattle.job.specs.declared.Kind.TheVariants.{Settings}
use Rattle.job.proofs.Shaped.{Ordered, NotSettings, some_field, opens, once, sound_at, shaped}
use Rattle.job.proofs.Settled.{settings_field_lem, settled_width}
use Rattle.walk.specs.FieldRecord.{field_control}
use Rattle.walk.proofs.RecordKept.{settings_stay}
use Rattle.demand.specs.Breaks.{is_issue}

module _ (job : List ℕ) where
  -- from the record c on, each issue field of a list meets the job's width
  abbrev pub Wide : Control → List Field → Type 0
  Wide c [] = Unit {0}
  Wide c (f ∷ fs) = (is_issue f.kind ≡ true → width_of c.settings ≡ job_width job) × Wide (field_control job c f.place f.kind) fs

  -- fields that leave the settings
  stay_wide : (fs : List Field) (c : Control) → width_of c.settings ≡ job_width job → EachField NotSettings fs → Wide c fs
  stay_wide [] c h o = tt
  stay_wide (f ∷ fs) c h o = (λ i. h, stay_wide fs _ (ap width_of (settings_stay job c f.place f.kind o.0) ∙ h) o.1)

  -- the first field of a right shape is the settings, at place 0
  module _ (r : shape_of job ≡ Ok tt) where
    some : 0 < length job
    some =
        split (ltb 0 (length job)) (λ b. ltb-true 0 (length job) b)
        (λ b. absurd (some_field (rw (fields_end job 0 (ltb-false 0 (length job) b)) at (shaped job r).order)))

    order : Ordered (field_at job 0 ∷ fields_from job (field_at job 0).next)
    order = rw (fields_step job 0 some) at (shaped job r).order

    pub first : (field_at job 0).kind ≡ Ok Settings
    first = opens (field_at job 0) (fields_from job (field_at job 0).next) order

    long_first : settings_bytes ≤ le2 job 1
    long_first =
        let long : length (payload_at job 0) ≡ settings_bytes = rw (place_at job 0) at (settings_field_lem job (field_at job 0) (sound_at job 0 some) first).long in
        let most : length (payload_at job 0) ≤ le2 job 1 = rw length-take (min-le_left (le2 job 1) (length (drop 3 job))) in
        omega arith

    pub first_width : job_width job ≡ width_of (settled start (payload_at job 0)).settings
    first_width = let l = long_first in sym (settled_width start job (omega (arith, l)))

    -- the record that it makes, and its flags
    pub settled_first : field_control job start (field_at job 0).place (field_at job 0).kind ≡ settled start (payload_at job 0)
    unfolding field_control
    settled_first = rw (first, (settings_field_lem job (field_at job 0) (sound_at job 0 some) first).settles start, place_at job 0)

    pub flags_first : get_or (payload_at job 0) 1 0 ≡ get_or job 4 0
    flags_first = let l = long_first in get_or-take (le2 job 1) (drop 3 job) 1 0 (omega (arith, l)) ∙ get_or-drop 3 job 1 0

    settles : width_of (field_control job start (field_at job 0).place (field_at job 0).kind).settings ≡ job_width job
    settles = ap (λ (c : Control). width_of c.settings) settled_first ∙ sym first_width

    -- it, and the fields after it
    pub opening : fields_from job 0 ≡ field_at job 0 ∷ fields_from job (field_at job 0).next
    opening = fields_step job 0 some

    -- none of which is the settings
    pub settled_once : EachField NotSettings (fields_from job (field_at job 0).next)
    settled_once = once (field_at job 0) (fields_from job (field_at job 0).next) order

    pub wide : Wide start (fields_from job 0)
    wide =
        let f = field_at job 0 in
        rw opening
        (λ i. absurd (false≢true (rw first at i)), stay_wide (fields_from job f.next) (field_control job start f.place f.kind) settles settled_once)
