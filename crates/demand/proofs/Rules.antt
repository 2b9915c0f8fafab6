-- The first broken rule of a list: what it says of each rule. Assumes nothing.
use mathlib.Core.Path.{◌≡◌, refl, sym, ap, ◌∙◌}
use mathlib.Core.Bool.{Bool, true, false, cond, ◌&&◌, and-false, false≢true}
use mathlib.Core.List.{List, [], ◌∷◌}
use Prim.Native.Nat.{ℕ, suc, ◌≤◌, ◌<◌}
use native.Mathlib.Omega.{arith}
use borrow.Author.Tests.{leb-true, ne_eqb, eq-eqb}
use lib.Dec.{leb, eqb}
use Rattle.std.specs.Prelude.{Result, Ok, Err}
use Rattle.cells.proofs.Cells.{split, both}
use Rattle.cells.specs.Tests.{one_of}
use Rattle.word.specs.Refusal.{number_of, rank_of}
use Rattle.word.specs.declared.Refusal.{Refusal}
use Rattle.word.specs.declared.Refusal.TheVariants.{StateLength, Shape, UnknownOpcode, UnnamedBit, UndefinedMode, UnmodelledSettings, BankOwner, DstRow, UnsetRead}
use Rattle.control.specs.declared.Control.{Control}
use Rattle.rules.specs.Rules.{Judged, ◌when◌, rules, lowest, operand_rules as word_rules}
use Rattle.rules.proofs.Reading.{never}
use Rattle.job.specs.declared.Cause.{Cause}
use Rattle.job.specs.declared.Write.{Write}
use Rattle.job.specs.declared.Write.TheVariants.{LoadSrc, LoadDst, LoadRegister, ZeroRows}
use Rattle.job.specs.declared.Output.{Output}
use Rattle.job.specs.declared.Output.TheVariants.{Rows, Register}
use Rattle.job.specs.declared.Kind.{Kind}
use Rattle.job.specs.declared.Kind.TheVariants as kind
use Rattle.precheck.specs.Marks.{Marks}
use Rattle.precheck.specs.Judging.{write_rules, output_rules, field_rules}
use Rattle.demand.specs.Breaks.{broken_rule}
use Rattle.demand.specs.Demand.{field_numbers, Ranks}

-- ---- no rule is broken

pub none_broken : (bs : List Judged) → lowest bs ≡ Ok tt → (q : Refusal) → broken_rule q bs ≡ false
unfolding lowest broken_rule
none_broken [] e q = refl
none_broken (b ∷ bs) e q =
    split b.broken (λ h. absurd (never (rw h at e)))
    (λ h. rw (h, and-false (eqb (number_of b.rule) (number_of q))) (none_broken bs (rw h at e) q))

-- then a rule that stands alone does not hold
pub alone_done : (r : Refusal) (b : Bool) → lowest ((r when b) ∷ []) ≡ Ok tt → b ≡ false
unfolding lowest
alone_done r true e = absurd (never e)
alone_done r false e = refl

-- ---- the first that is

-- a number has one rank
rank_from : ℕ → ℕ
rank_from n = cond (eqb n 9) 0 n

rank_from_lem : (r : Refusal) → rank_of r ≡ rank_from (number_of r)
unfolding rank_from
rank_from_lem StateLength = refl
rank_from_lem Shape = refl
rank_from_lem UnknownOpcode = refl
rank_from_lem (UnnamedBit i) = refl
rank_from_lem UndefinedMode = refl
rank_from_lem UnmodelledSettings = refl
rank_from_lem BankOwner = refl
rank_from_lem DstRow = refl
rank_from_lem UnsetRead = refl

same_rank : (q r : Refusal) → number_of q ≡ number_of r → rank_of q ≡ rank_of r
same_rank q r e = rank_from_lem q ∙ ap rank_from e ∙ sym (rank_from_lem r)

pub ranks : (r : Refusal) → Ranks r
ranks StateLength = record { rank = λ e. absurd (false≢true e) }
ranks Shape = record { rank = λ e. absurd (false≢true e) }
ranks UnknownOpcode = record { rank = λ e. refl }
ranks (UnnamedBit i) = record { rank = λ e. refl }
ranks UndefinedMode = record { rank = λ e. refl }
ranks UnmodelledSettings = record { rank = λ e. refl }
ranks BankOwner = record { rank = λ e. refl }
ranks DstRow = record { rank = λ e. refl }
ranks UnsetRead = record { rank = λ e. refl }

-- the ranks rise, from k on
unfoldable pub rising : ℕ → List Judged → Bool
rising k [] = true
rising k (b ∷ bs) = leb k (rank_of b.rule) && rising (suc (rank_of b.rule)) bs

-- the head of such a list, and its rest
rise : (k : ℕ) (b : Judged) (bs : List Judged) → rising k (b ∷ bs) ≡ true → (k ≤ rank_of b.rule) × (rising (suc (rank_of b.rule)) bs ≡ true)
unfolding rising
rise k b bs h = let r = both (leb k (rank_of b.rule)) (rising (suc (rank_of b.rule)) bs) h in (leb-true _ _ r.0, r.1)

-- none before the first
none_before : (k : ℕ) (bs : List Judged) → rising k bs ≡ true → (q : Refusal) → rank_of q < k → broken_rule q bs ≡ false
unfolding broken_rule
none_before k [] h q l = refl
none_before k (b ∷ bs) h q l =
    let r = rise k b bs h in
    rw (ne_eqb (number_of b.rule) (number_of q) (λ e. omega (arith, same_rank b.rule q e))) (none_before _ bs r.1 q (omega arith))

-- r is the first of a list whose ranks rise
pub record Lowest (bs : List Judged) (r : Refusal) : Type 0 where
  pub broken : broken_rule r bs ≡ true
  pub lower : (q : Refusal) → rank_of q < rank_of r → broken_rule q bs ≡ false

pub lowest_is : (k : ℕ) (bs : List Judged) (r : Refusal) → rising k bs ≡ true → lowest bs ≡ Err r → Lowest bs r
unfolding lowest broken_rule
lowest_is k [] r h e = absurd (never (sym e))
lowest_is k (b ∷ bs) r h e =
    let up = rise k b bs h in
    split b.broken
    (λ t.
    let q : Err b.rule ≡ Err r = rw t at e in
    let s : b.rule ≡ r = cc in
    let n = number_of r in
    record {
      broken = rw (t, s, eq-eqb n n refl);
      lower = λ q l. rw (s, ne_eqb n (number_of q) (λ e. omega (arith, same_rank r q e))) (none_before (suc (rank_of r)) bs (rw s at up.1) q (omega arith));
    })
    (λ t.
    let i = lowest_is _ bs r up.1 (rw t at e) in
    record {
      broken = rw (t, and-false (eqb (number_of b.rule) (number_of r))) i.broken;
      lower = λ q l. rw (t, and-false (eqb (number_of b.rule) (number_of q))) (i.lower q l);
    })

-- ---- numbers

-- each rule of a list has one of these numbers
abbrev pub numbered : List ℕ → List Judged → Bool
numbered l [] = true
numbered l (b ∷ bs) = one_of (number_of b.rule) l && numbered l bs

-- so the one that counts has
pub lowest_numbered : (l : List ℕ) (bs : List Judged) (r : Refusal) → numbered l bs ≡ true → lowest bs ≡ Err r → one_of (number_of r) l ≡ true
unfolding lowest
lowest_numbered l [] r h e = absurd (never (sym e))
lowest_numbered l (b ∷ bs) r h e =
    let p = both (one_of (number_of b.rule) l) (numbered l bs) h in
    split b.broken
    (λ t.
    let q : Err b.rule ≡ Err r = rw t at e in
    let s : b.rule ≡ r = cc in
    rw (← s) p.0)
    (λ t. lowest_numbered l bs r p.1 (rw t at e))

-- ---- the rules of each field stand in the order of their ranks, and have numbers of the table

module _ (c : Control) (m : Marks) where
  write_rise : (x : Write) → rising 0 (write_rules c x) ≡ true
  unfolding rising
  write_rise (LoadSrc file rows) = refl
  write_rise (LoadDst w rows) = refl
  write_rise (LoadRegister t r) = refl
  write_rise (ZeroRows w rows) = refl

  output_rise : (o : Output) → rising 0 (output_rules m o) ≡ true
  unfolding rising
  output_rise (Rows w rows) = refl
  output_rise (Register t r) = refl

  pub rules_rise : (k : Result Kind Cause) → rising 0 (field_rules c m k) ≡ true
  unfolding rising field_rules rules word_rules
  rules_rise (Ok kind.Settings) = refl
  rules_rise (Ok (kind.Issue t w)) = refl
  rules_rise (Ok (kind.HandOver file)) = refl
  rules_rise (Ok (kind.Writes x)) = write_rise x
  rules_rise (Ok (kind.Prints o)) = output_rise o
  rules_rise (Err x) = refl

  write_numbered : (x : Write) → numbered field_numbers (write_rules c x) ≡ true
  write_numbered (LoadSrc file rows) = refl
  write_numbered (LoadDst w rows) = refl
  write_numbered (LoadRegister t r) = refl
  write_numbered (ZeroRows w rows) = refl

  output_numbered : (o : Output) → numbered field_numbers (output_rules m o) ≡ true
  output_numbered (Rows w rows) = refl
  output_numbered (Register t r) = refl

  pub rules_numbered : (k : Result Kind Cause) → numbered field_numbers (field_rules c m k) ≡ true
  unfolding field_rules rules word_rules
  rules_numbered (Ok kind.Settings) = refl
  rules_numbered (Ok (kind.Issue t w)) = refl
  rules_numbered (Ok (kind.HandOver file)) = refl
  rules_numbered (Ok (kind.Writes x)) = write_numbered x
  rules_numbered (Ok (kind.Prints o)) = output_numbered o
  rules_numbered (Err x) = refl
