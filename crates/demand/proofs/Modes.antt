-- Which numbers the two Dst modes leave: of a word, and of the fields of a job. Assumes nothing.
use mathlib.Core.Path.{◌≡◌, refl, sym, ap, ◌∙◌}
use mathlib.Core.Bool.{Bool, true, false, false≢true, not, ◌||◌}
use mathlib.Core.List.{List, [], ◌∷◌}
use mathlib.Core.Logic.{inl, inr, ⊎_elim}
use Prim.Native.Nat.{ℕ, zero, suc}
use native.Mathlib.Omega.{arith}
use borrow.Author.Tests.{eqb-true, not-true}
use lib.Dec.{eqb}
use Rattle.std.specs.Prelude.{Result, Ok, Err}
use Rattle.cells.specs.declared.Width.TheVariants.{Bits32, Bits16}
use Rattle.cells.specs.Places.{row_count}
use Rattle.cells.proofs.Cells.{split, both, both_off}
use Rattle.word.specs.Word.{word_operands}
use Rattle.word.specs.Refusal.{number_of}
use Rattle.word.specs.declared.Refusal.{Refusal}
use Rattle.word.specs.declared.Refusal.TheVariants.{DstRow}
use Rattle.word.specs.declared.Operands.{Operands}
use Rattle.control.specs.declared.Control.{Control}
use Rattle.control.specs.declared.Settings.{Settings}
use Rattle.control.specs.Record.{bf16_mode, width_of}
use Rattle.rules.specs.Multiply.{fp32_mode}
use Rattle.rules.specs.Rules.{Judged, rules, unmodelled, operand_rules as word_rules}
use Rattle.rules.proofs.Places.{row_never_wrong}
use Rattle.rules.proofs.Classes.{multiply_alone}
use Rattle.job.specs.declared.Cause.{Cause}
use Rattle.job.specs.Fields.{job_width}
use Rattle.job.specs.declared.Write.{Write}
use Rattle.job.specs.declared.Write.TheVariants.{LoadSrc, LoadDst, LoadRegister, ZeroRows}
use Rattle.job.specs.declared.Output.{Output}
use Rattle.job.specs.declared.Output.TheVariants.{Rows, Register}
use Rattle.job.specs.declared.Kind.{Kind}
use Rattle.job.specs.declared.Kind.TheVariants as kind
use Rattle.job.specs.declared.Field.{Field}
use Rattle.precheck.specs.Marks.{Marks}
use Rattle.precheck.specs.Judging.{write_rules, output_rules, field_rules}
use Rattle.walk.specs.FieldRecord.{field_control}
use Rattle.precheck.specs.Marking.{field_marks}
use Rattle.demand.specs.Breaks.{broken_rule, breaks, is_issue}
use Rattle.demand.specs.Demand.{InBf16, InFp32, Unmodelled, SettingsModes, WordModes}
use Rattle.step.proofs.Verdicts.{refused_by_lem}
use Rattle.demand.proofs.Steps.{judged}
use Rattle.demand.proofs.Widths.{Wide}

-- ---- the modes, as they are spelled out and as the rules test them

in_fp32 : (s : Settings) → fp32_mode s ≡ true → InFp32 s
in_fp32 s e =
    let a = both _ (eqb s.format 2 || eqb s.format 6) e in
    let b = both _ (not s.fp16a) a.0 in
    let d = both s.fp32 (not s.int8) b.0 in
    record {
      fp32 = d.0;
      int8 = not-true s.int8 d.1;
      fp16a = not-true s.fp16a b.1;
      format = either (eqb s.format 2) _ a.1 (λ t. inl (eqb-true _ _ t)) (λ t. inr (eqb-true _ _ t));
    }
  where
    either : {X : Type 0} (a b : Bool) → (a || b) ≡ true → (a ≡ true → X) → (b ≡ true → X) → X
    either true b e f g = f refl
    either false b e f g = g e

fp32_tested : (s : Settings) → InFp32 s → fp32_mode s ≡ true
fp32_tested s m = rw (m.fp32, m.int8, m.fp16a) (⊎_elim (λ t. rw t) (λ t. rw t) m.format)

in_bf16 : (s : Settings) → bf16_mode s.format s.fp32 s.int8 s.fp16a ≡ true → InBf16 s
in_bf16 s e =
    let a = both _ (eqb s.format 2) e in
    let b = both _ (not s.fp16a) a.0 in
    let d = both (not s.fp32) (not s.int8) b.0 in
    record { fp32 = not-true s.fp32 d.0; int8 = not-true s.int8 d.1; fp16a = not-true s.fp16a b.1; format = eqb-true _ _ a.1 }

bf16_tested : (s : Settings) → InBf16 s → bf16_mode s.format s.fp32 s.int8 s.fp16a ≡ true
bf16_tested s m = rw (m.fp32, m.int8, m.fp16a, m.format)

pub settings_modes : (s : Settings) → SettingsModes s
settings_modes s =
    record {
      halves = λ m. rw (bf16_tested s m);
      bf16 = λ e. split (bf16_mode s.format s.fp32 s.int8 s.fp16a) (in_bf16 s)
          (λ t. absurd (let w : Bits32 ≡ Bits16 = rw t at e in let z : 512 ≡ 1024 = ap row_count w in omega arith));
    }

-- a mode that settings are not in is not found by its test
off : {X : Type 0} (b : Bool) → (b ≡ true → X) → (X → ⊥) → b ≡ false
off true f n = absurd (n (f refl))
off false f n = refl

-- ---- 5 exactly when neither mode is modelled

module _ (c : Control) (w : ℕ) where
  neither : (unmodelled c (word_operands w) || false) ≡ true → Unmodelled c.settings w
  neither h =
      let u = multiply_alone c (word_operands w) (broken _ h) in
      let b = both_off (fp32_mode c.settings) _ u.settings in
      record {
        multiply = u.multiply;
        word = u.is;
        not_fp32 = λ x. false≢true (sym b.0 ∙ fp32_tested c.settings x);
        not_bf16 = λ x. false≢true (sym b.1 ∙ bf16_tested c.settings x);
      }
    where
      broken : (b : Bool) → (b || false) ≡ true → b ≡ true
      broken true h = refl
      broken false h = h

-- ---- a rule goes by its number

rule_same : (q r : Refusal) → number_of q ≡ number_of r → (bs : List Judged) → broken_rule q bs ≡ broken_rule r bs
unfolding broken_rule
rule_same q r e [] = refl
rule_same q r e (b ∷ bs) = rw (e, rule_same q r e bs)

pub breaks_same : (q r : Refusal) → number_of q ≡ number_of r → (job : List ℕ) (c : Control) (m : Marks) (fs : List Field) (k : ℕ) → breaks job c m fs k q ≡ breaks job c m fs k r
unfolding breaks
breaks_same q r e job c m [] k = refl
breaks_same q r e job c m (f ∷ fs) zero = rule_same q r e (field_rules c m f.kind)
breaks_same q r e job c m (f ∷ fs) (suc k) = breaks_same q r e job (field_control job c f.place f.kind) (field_marks c m f.kind) fs k

-- ---- no 7 in the BF16 mode

-- the rules of a field
write_right : (c : Control) (x : Write) → broken_rule DstRow (write_rules c x) ≡ false
unfolding broken_rule
write_right c (LoadSrc file rows) = refl
write_right c (LoadDst w rows) = refl
write_right c (LoadRegister t r) = refl
write_right c (ZeroRows w rows) = refl

output_right : (m : Marks) (o : Output) → broken_rule DstRow (output_rules m o) ≡ false
unfolding broken_rule
output_right m (Rows w rows) = refl
output_right m (Register t r) = refl

field_right : (c : Control) (m : Marks) (k : Result Kind Cause) → (is_issue k ≡ true → width_of c.settings ≡ Bits16) → broken_rule DstRow (field_rules c m k) ≡ false
unfolding broken_rule field_rules rules word_rules
field_right c m (Ok kind.Settings) q = refl
field_right c m (Ok (kind.Issue t w)) q = ap (λ (b : Bool). b || false) (row_never_wrong c t (word_operands w) (q refl))
field_right c m (Ok (kind.HandOver file)) q = refl
field_right c m (Ok (kind.Writes x)) q = write_right c x
field_right c m (Ok (kind.Prints o)) q = output_right m o
field_right c m (Err x) q = refl

-- and of all fields, where each issue field meets the job's width
pub none_breaks_seven : (job : List ℕ) → job_width job ≡ Bits16 → (fs : List Field) (c : Control) (m : Marks) → Wide job c fs → (k : ℕ) → breaks job c m fs k DstRow ≡ false
unfolding breaks
none_breaks_seven job q [] c m x k = refl
none_breaks_seven job q (f ∷ fs) c m x zero = field_right c m f.kind (λ i. x.0 i ∙ q)
none_breaks_seven job q (f ∷ fs) c m x (suc k) = none_breaks_seven job q fs (field_control job c f.place f.kind) (field_marks c m f.kind) x.1 k

-- ---- a word

module _ (c : Control) (t w : ℕ) where
  not_seven : width_of c.settings ≡ Bits16 → broken_rule DstRow (rules c t w) ≡ false
  unfolding broken_rule rules word_rules
  not_seven q = ap (λ (b : Bool). b || false) (row_never_wrong c t (word_operands w) q)

  pub word_modes : WordModes c t w
  unfolding broken_rule rules word_rules
  word_modes =
      record {
        unmodelled = λ h. neither c w h;
        five = λ u. ap (λ (f : Operands). unmodelled c f || false) u.word
            ∙ (λ i. not (off (fp32_mode c.settings) (in_fp32 c.settings) u.not_fp32 i || off _ (in_bf16 c.settings) u.not_bf16 i) || false);
        not_seven = λ m. not_seven ((settings_modes c.settings).halves m);
        step = λ m s r e. ⊎_elim
            (λ j z. false≢true (sym (not_seven ((settings_modes c.settings).halves m)) ∙ sym (rule_same r DstRow z (rules c t w)) ∙ (judged c t w s r j).broken))
            (⊎_elim (λ o z. omega (arith, o, z)) (λ o z. omega (arith, o, z)))
            (refused_by_lem c t w s r e);
      }
