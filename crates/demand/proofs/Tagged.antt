-- The fields that the reader finds in a well-shaped job are those of its bytes: as many issue fields as fields with tag 5, and the width that the
-- settings' bytes give. Assumes nothing.
use mathlib.Core.Path.{◌≡◌, refl, sym, ap, ◌∙◌}
use mathlib.Core.Bool.{false, cond}
use mathlib.Core.List.{List, [], ◌∷◌, ◌++◌, append-nil}
use Prim.Native.Nat.{ℕ, zero, suc, ◌*◌, ◌/◌, ◌%◌, ◌≤◌, ◌<◌}
use native.Mathlib.Nat.{div-div-eq-div-mul, mul-mod_left}
use native.Mathlib.Omega.{arith}
use borrow.Author.Tests.{eqb-false, eq-eqb, ne_eqb}
use lib.Dec.{eqb}
use lib.ListN.{length, get_or, drop}
use lib.Seq.{get_or-drop}
use Rattle.std.specs.Prelude.{Result, Ok, Err}
use Rattle.cells.specs.declared.Width.{Width}
use Rattle.cells.specs.declared.Width.TheVariants.{Bits16}
use Rattle.word.specs.Bits.{bit}
use Rattle.job.specs.declared.Cause.{Cause}
use Rattle.job.specs.Fields.{job_width, fields_from}
use Rattle.job.specs.Settings.{settings_of}
use Rattle.job.specs.declared.Kind.{Kind}
use Rattle.job.specs.declared.Kind.TheVariants as kind
use Rattle.job.specs.declared.Write.{Write}
use Rattle.job.specs.declared.Write.TheVariants as write
use Rattle.job.specs.declared.Output.{Output}
use Rattle.job.specs.declared.Output.TheVariants as output
use Rattle.job.specs.declared.Field.{Field}
use Rattle.job.proofs.Walk.{fields_end, fields_step}
use Rattle.job.proofs.Says.{WriteSays, OutputSays, Says, says}
use Rattle.demand.specs.Breaks.{is_issue, issue_fields}
use Rattle.demand.specs.WellShaped.{FieldBytes, joined, Prints, Acts, EachOf, WellShaped, fields_of, tagged}
use Rattle.demand.proofs.Modes.{settings_modes}
use Rattle.demand.proofs.Tags.{Acting, Printing, found, settles_kind, acts_kind, prints_kind}
use Rattle.demand.proofs.Shapes.{field_after, inside, after, from}

-- ---- an issue field is one with tag 5

module _ (w : Width) (f : FieldBytes) where
  -- a field of any kind but Wrong
  abbrev Read : Result Kind Cause → Type 0
  Read (Ok kind.Settings) = Unit {0}
  Read (Ok (kind.Issue t x)) = Unit {0}
  Read (Ok (kind.HandOver file)) = Unit {0}
  Read (Ok (kind.Writes x)) = Unit {0}
  Read (Ok (kind.Prints o)) = Unit {0}
  Read (Err c) = ⊥

  other : (n : ℕ) → f.tag ≡ n → (n ≡ 5 → ⊥) → false ≡ eqb f.tag 5
  other n e d = sym (ne_eqb f.tag 5 (λ q. d (sym e ∙ q)))

  write_tag : (x : Write) → WriteSays w f.tag f.payload x → false ≡ eqb f.tag 5
  write_tag (write.LoadSrc file rows) s = other 2 s.0 (λ q. omega arith)
  write_tag (write.LoadDst v rows) s = other 2 s.0 (λ q. omega arith)
  write_tag (write.LoadRegister t r) s = other 3 s.0 (λ q. omega arith)
  write_tag (write.ZeroRows v rows) s = other 8 s.2 (λ q. omega arith)

  output_tag : (o : Output) → OutputSays w f.tag f.payload o → false ≡ eqb f.tag 5
  output_tag (output.Rows v rows) s = other 6 s.2 (λ q. omega arith)
  output_tag (output.Register t r) s = other 7 s.1 (λ q. omega arith)

  issue_tag : Read (found w f) → is_issue (found w f) ≡ eqb f.tag 5
  issue_tag h = go (found w f) (says w f.tag f.payload) h
    where
      go : (k : Result Kind Cause) → Says w f.tag f.payload k → Read k → is_issue k ≡ eqb f.tag 5
      go (Ok kind.Settings) s h = other 1 s.0 (λ q. omega arith)
      go (Ok (kind.Issue t x)) s h = sym (eq-eqb f.tag 5 s.1)
      go (Ok (kind.HandOver file)) s h = other 4 s.0 (λ q. omega arith)
      go (Ok (kind.Writes x)) s h = write_tag x s
      go (Ok (kind.Prints o)) s h = output_tag o s
      go (Err c) s h = absurd h

  acting_read : (k : Result Kind Cause) → Acting k → Read k
  acting_read (Ok kind.Settings) a = absurd a
  acting_read (Ok (kind.Issue t x)) a = tt
  acting_read (Ok (kind.HandOver file)) a = tt
  acting_read (Ok (kind.Writes x)) a = tt
  acting_read (Ok (kind.Prints o)) a = absurd a
  acting_read (Err c) a = absurd a

  printing_read : (k : Result Kind Cause) → Printing k → Read k
  printing_read (Ok kind.Settings) a = absurd a
  printing_read (Ok (kind.Issue t x)) a = absurd a
  printing_read (Ok (kind.HandOver file)) a = absurd a
  printing_read (Ok (kind.Writes x)) a = absurd a
  printing_read (Ok (kind.Prints o)) a = tt
  printing_read (Err c) a = absurd a

-- ---- of a whole job

abbrev Tells : Width → FieldBytes → Type 0
Tells w f = is_issue (found w f) ≡ eqb f.tag 5

module _ (w : Width) where
  acts_tell : (fs gs : List FieldBytes) → EachOf (Acts w) fs → EachOf (Tells w) gs → EachOf (Tells w) (fs ++ gs)
  acts_tell [] gs h t = t
  acts_tell (f ∷ fs) gs h t = (issue_tag w f (acting_read w f (found w f) (acts_kind w f h.0)), acts_tell fs gs h.1 t)

  prints_tell : (fs : List FieldBytes) → EachOf (Prints w) fs → EachOf (Tells w) fs
  prints_tell [] h = tt
  prints_tell (f ∷ fs) h = (issue_tag w f (printing_read w f (found w f) (prints_kind w f h.0)), prints_tell fs h.1)

module _ (job : List ℕ) where
  count_from : (fs before : List FieldBytes) → job ≡ joined before ++ joined fs → EachOf (Tells (job_width job)) fs
      → issue_fields (fields_from job (from job before)) ≡ tagged 5 fs
  unfolding joined issue_fields tagged
  count_from [] before e h =
      let n : length job ≤ from job before = let z = ap length (e ∙ append-nil (joined before)) in omega (arith, z) in
      rw (fields_end job (from job before) n)
  count_from (f ∷ fs) before e h =
      let g = field_after job before f (joined fs) e in
      ap issue_fields (fields_step job (from job before) (inside job before f (joined fs) e) ∙ ap (λ (x : Field). x ∷ fields_from job x.next) g)
      ∙ rw h.0 (ap (λ (n : ℕ). cond (eqb f.tag 5) (suc n) n) (count_from fs (before ++ f ∷ []) (after job before f (joined fs) e) h.1))

  pub issues_tagged : (w : WellShaped job) → issue_fields (fields_from job 0) ≡ tagged 5 (fields_of w)
  unfolding joined
  issues_tagged w =
      let v = job_width job in
      let s : Tells v w.settings = rw (settles_kind v w.settings w.settles, w.settles.tag) in
      count_from (fields_of w) [] w.whole (s, acts_tell v w.acting w.outputs w.acts (prints_tell v w.outputs w.prints))

  -- ---- the width

  -- of the flags, Fp32, INT8 and FP16A force are off exactly when bits 0 to 2 are 0
  even : (n : ℕ) → (n % 2 ≡ 1 → ⊥) → n % 2 ≡ 0
  even n h = small (n % 2) (omega arith) h
    where
      small : (d : ℕ) → d < 2 → (d ≡ 1 → ⊥) → d ≡ 0
      small zero l h = refl
      small (suc zero) l h = absurd (h refl)
      small (suc (suc d)) l h = absurd (omega arith)

  flag_bits : (n : ℕ) → bit n 0 ≡ false → bit n 1 ≡ false → bit n 2 ≡ false → n % 8 ≡ 0
  flag_bits n a b c =
      let x = even (n / 1) (eqb-false (n / 1 % 2) 1 a) in
      let y = even (n / 2) (eqb-false (n / 2 % 2) 1 b) in
      let z : n / 2 / 2 % 2 ≡ 0 = ap (λ (q : ℕ). q % 2) (div-div-eq-div-mul n 2 2) ∙ even (n / 4) (eqb-false (n / 4 % 2) 1 c) in
      let eighths : n ≡ n / 2 / 2 / 2 * 8 = omega (arith, x, y, z) in
      ap (λ (m : ℕ). m % 8) eighths ∙ mul-mod_left (n / 2 / 2 / 2) 8

  bits_off : (n : ℕ) → n % 8 ≡ 0 → (bit n 0 ≡ false) × (bit n 1 ≡ false) × (bit n 2 ≡ false)
  bits_off n h =
      (ne_eqb (n / 1 % 2) 1 (λ (z : n / 1 % 2 ≡ 1). omega (arith, h, z)), ne_eqb (n / 2 % 2) 1 (λ (z : n / 2 % 2 ≡ 1). omega (arith, h, z)), ne_eqb (n / 4 % 2) 1 (λ (z : n / 4 % 2 ≡ 1). omega (arith, h, z)))

  pub halves : get_or job 3 0 ≡ 2 → get_or job 4 0 % 8 ≡ 0 → job_width job ≡ Bits16
  unfolding job_width
  halves f g =
      let a : get_or (drop 3 job) 0 0 ≡ 2 = get_or-drop 3 job 0 0 ∙ f in
      let b = bits_off (get_or (drop 3 job) 1 0) (ap (λ (n : ℕ). n % 8) (get_or-drop 3 job 1 0) ∙ g) in
      (settings_modes (settings_of (drop 3 job))).halves (record { fp32 = b.0; int8 = b.1; fp16a = b.2; format = a })

  pub bytes : job_width job ≡ Bits16 → (get_or job 3 0 ≡ 2) × (get_or job 4 0 % 8 ≡ 0)
  unfolding job_width
  bytes e =
      let m = (settings_modes (settings_of (drop 3 job))).bf16 e in
      (sym (get_or-drop 3 job 0 0) ∙ m.format, ap (λ (n : ℕ). n % 8) (sym (get_or-drop 3 job 1 0)) ∙ flag_bits (get_or (drop 3 job) 1 0) m.fp32 m.int8 m.fp16a)
