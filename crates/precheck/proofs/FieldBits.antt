-- A refusal 3 that a field meets has the lowest offending bit of the field's word. Assumes nothing.
use mathlib.Core.Path.{◌≡◌, refl, ap}
use mathlib.Core.Bool.{Bool, true}
use mathlib.Core.List.{[], ◌∷◌, ◌++◌}
use mathlib.Core.Logic.{◌≢◌}
use Prim.Native.Nat.{ℕ}
use native.Mathlib.Omega.{arith}
use Rattle.std.specs.Prelude.{Result, Ok, Err}
use Rattle.word.specs.Refusal.{number_of}
use Rattle.word.specs.Word.{unnamed_bit, offending_bit}
use Rattle.word.specs.declared.Refusal.{Refusal}
use Rattle.word.specs.declared.Refusal.TheVariants.{UnnamedBit, BankOwner, UnsetRead}
use Rattle.word.proofs.Every.{Every, ◌and◌, every_append}
use Rattle.control.specs.declared.Control.{Control}
use Rattle.rules.specs.Rules.{Judged, ◌when◌, rules, lowest}
use Rattle.rules.proofs.Reading.{lowest_has, WordBit, other_bit, rules_bits}
use Rattle.job.specs.declared.Cause.{Cause}
use Rattle.job.specs.declared.Write.{Write}
use Rattle.job.specs.declared.Write.TheVariants as write
use Rattle.job.specs.declared.Output.{Output}
use Rattle.job.specs.declared.Output.TheVariants as output
use Rattle.job.specs.declared.Kind.{Kind}
use Rattle.job.specs.declared.Kind.TheVariants as kind
use Rattle.precheck.specs.Marks.{Marks}
use Rattle.precheck.specs.Judging.{unpackers_bank, write_rules, output_rules, unset_read, field_rules}

-- bit i is that of the word of an issue field
pub record FromWord (k : Result Kind Cause) (i : ℕ) : Type 0 where
  pub thread : ℕ
  pub word : ℕ
  pub issue : k ≡ Ok (kind.Issue thread word)
  pub unnamed : unnamed_bit word ≡ true
  pub bit : i ≡ offending_bit word

abbrev pub FieldBit : Result Kind Cause → Refusal → Type 0
FieldBit k r = (i : ℕ) → r ≡ UnnamedBit i → FromWord k i

-- no other field is refused with 3
unworded : (k : Result Kind Cause) (r : Refusal) → number_of r ≢ 3 → FieldBit k r
unworded k r h i q = absurd (h (ap number_of q))

abbrev Quiet : Judged → Type 0
Quiet b = b.broken ≡ true → number_of b.rule ≢ 3

by_owner : (b : Bool) → Every Quiet ((BankOwner when b) ∷ [])
by_owner b = (λ h e. omega arith) and tt

by_reads : (b : Bool) → Every Quiet ((UnsetRead when b) ∷ [])
by_reads b = (λ h e. omega arith) and tt

write_quiet : (c : Control) (x : Write) → Every Quiet (write_rules c x)
write_quiet c (write.LoadSrc file rows) = by_owner _
write_quiet c (write.LoadDst w rows) = tt
write_quiet c (write.LoadRegister t r) = tt
write_quiet c (write.ZeroRows w rows) = tt

output_quiet : (m : Marks) (o : Output) → Every Quiet (output_rules m o)
output_quiet m (output.Rows w rows) = by_reads _
output_quiet m (output.Register t r) = by_reads _

pub field_bit : (c : Control) (m : Marks) (k : Result Kind Cause) (r : Refusal) → lowest (field_rules c m k) ≡ Err r → FieldBit k r
unfolding field_rules
field_bit c m (Ok kind.Settings) r e = unworded (Ok kind.Settings) r (lowest_has (λ x. number_of x ≢ 3) [] tt r e)
field_bit c m (Ok (kind.Issue t w)) r e = λ i q.
    let l = (UnsetRead when unset_read c m t w) ∷ [] in
    let b = lowest_has (WordBit w) (rules c t w ++ l) (every_append _ (rules c t w) l (rules_bits c t w) ((λ h. other_bit w (λ e. omega arith)) and tt)) r e i q in
    record { thread = t; word = w; issue = refl; unnamed = b.0; bit = b.1 }
field_bit c m (Ok (kind.HandOver file)) r e = unworded (Ok (kind.HandOver file)) r (lowest_has (λ x. number_of x ≢ 3) (unpackers_bank c file) (by_owner _) r e)
field_bit c m (Ok (kind.Writes x)) r e = unworded (Ok (kind.Writes x)) r (lowest_has (λ x. number_of x ≢ 3) (write_rules c x) (write_quiet c x) r e)
field_bit c m (Ok (kind.Prints o)) r e = unworded (Ok (kind.Prints o)) r (lowest_has (λ x. number_of x ≢ 3) (output_rules m o) (output_quiet m o) r e)
field_bit c m (Err x) r e = unworded (Err x) r (lowest_has (λ x. number_of x ≢ 3) [] tt r e)
