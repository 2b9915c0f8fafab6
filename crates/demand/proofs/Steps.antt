-- Demand 1 of the single step. Assumes nothing.
use Rattle.std.specs.Prelude.{Result, Ok, Err, ⊤}
use mathlib.Core.Path.{◌≡◌, refl, sym, ap, ◌∙◌}
use mathlib.Core.Bool.{Bool, true, false, cond, ◌&&◌, false≢true}
use mathlib.Core.List.{[], ◌∷◌}
use mathlib.Core.Logic.{⊎_elim, ◌≢◌}
use Prim.Native.Nat.{ℕ, ◌<◌}
use borrow.Author.Tests.{ltb-true, lt-ltb}
use lib.Dec.{ltb}
use Rattle.cells.specs.Tests.{one_of}
use Rattle.word.specs.Refusal.{number_of}
use Rattle.word.specs.declared.Refusal.{Refusal}
use Rattle.word.specs.declared.Refusal.TheVariants.{StateLength, Shape}
use Rattle.control.specs.declared.Control.{Control}
use Rattle.control.specs.Range.{in_range}
use Rattle.rules.specs.Rules.{rules, operand_rules, judgement}
use Rattle.rules.proofs.Reading.{never}
use Rattle.cells.specs.Layout.{thread_count}
use Rattle.cells.specs.State.{State, sized}
use Rattle.cells.proofs.Cells.{split, both}
use Rattle.cells.proofs.Sizes.{Sizes, sizes, sized_of, unsized}
use Rattle.step.specs.Step.{verdict_of, stepped_of, state_of, step_answer}
use Rattle.step.proofs.Verdicts.{refused_by_lem, step_bit}
use Rattle.demand.specs.Breaks.{broken_rule}
use Rattle.demand.specs.Demand.{step_numbers, Lengths, StepDemand1}
use Rattle.demand.specs.RecordRange.{RecordIn}
use Rattle.demand.proofs.Ranges.{record_ok, record_in}
use Rattle.demand.proofs.Bits.{differ, told_of, judged_three}
use Rattle.demand.proofs.Rules.{none_broken, rising, Lowest, lowest_is, lowest_numbered}

-- the lengths, here and in the layout
pub sizes_of : (s : State) → Lengths s → Sizes s
sizes_of s l = record { srca = l.srca; srcb = l.srcb; dst = l.dst; registers = l.registers }

pub lengths_of : (s : State) → Sizes s → Lengths s
lengths_of s l = record { srca = l.srca; srcb = l.srcb; dst = l.dst; registers = l.registers }

judged_numbered : (c : Control) (t w : ℕ) (r : Refusal) → judgement c t w ≡ Err r → one_of (number_of r) step_numbers ≡ true
unfolding judgement rules operand_rules
judged_numbered c t w r e = lowest_numbered step_numbers (rules c t w) r refl e

module _ (c : Control) (t w : ℕ) (s : State) where
  tabled : (r : Refusal) → verdict_of c t w s ≡ Err r → one_of (number_of r) step_numbers ≡ true
  tabled r e = ⊎_elim (judged_numbered c t w r) (⊎_elim (λ q. ap member q) (λ q. ap member q)) (refused_by_lem c t w s r e)
    where
      member : ℕ → Bool
      member n = one_of n step_numbers

  -- the rules stand in the order of their ranks
  pub judged : (r : Refusal) → judgement c t w ≡ Err r → Lowest (rules c t w) r
  unfolding judgement rules operand_rules rising
  judged r e = lowest_is 0 (rules c t w) r refl e

  unjudged : judgement c t w ≡ Ok tt → (q : Refusal) → broken_rule q (rules c t w) ≡ false
  unfolding judgement
  unjudged e = none_broken (rules c t w) e

  judged_done : ((q : Refusal) → broken_rule q (rules c t w) ≡ false) → judgement c t w ≡ Ok tt
  judged_done h = go (judgement c t w) refl
    where
      go : (v : Result ⊤ Refusal) → judgement c t w ≡ v → v ≡ Ok tt
      go (Ok u) e = refl
      go (Err r) e = absurd (false≢true (sym (h r) ∙ (judged r e).broken))

  -- ---- by the lengths, the range and the rules, in this order

  nine : (Lengths s → ⊥) → verdict_of c t w s ≡ Err StateLength
  unfolding verdict_of
  nine h = simp (unsized s (λ z. h (lengths_of s z)))

  in_bounds : (in_range c && ltb t thread_count) ≡ true → RecordIn c × (t < 3)
  in_bounds e = let b = both (in_range c) (ltb t thread_count) e in (record_in c b.0, ltb-true t thread_count b.1)

  out_of_bounds : (RecordIn c × (t < 3) → ⊥) → (in_range c && ltb t thread_count) ≡ false
  out_of_bounds h = split (in_range c && ltb t thread_count) (λ e. absurd (h (in_bounds e))) (λ e. e)

  one : Lengths s → (RecordIn c × (t < 3) → ⊥) → verdict_of c t w s ≡ Err Shape
  unfolding verdict_of
  one l h = simp (sized_of s (sizes_of s l), out_of_bounds h)

  by_rules : Lengths s → RecordIn c → t < 3 → verdict_of c t w s ≡ judgement c t w
  unfolding verdict_of
  by_rules l r h = simp (sized_of s (sizes_of s l), record_ok c r, lt-ltb t thread_count h)

  -- the rules have neither 9 nor 1
  not_judged : (r : Refusal) → one_of (number_of r) (2 ∷ 3 ∷ 4 ∷ 5 ∷ 6 ∷ 7 ∷ []) ≡ false → judgement c t w ≢ Err r
  unfolding judgement rules operand_rules
  not_judged r h e = false≢true (sym h ∙ lowest_numbered (2 ∷ 3 ∷ 4 ∷ 5 ∷ 6 ∷ 7 ∷ []) (rules c t w) r refl e)

  not_nine : Lengths s → verdict_of c t w s ≢ Err StateLength
  unfolding verdict_of
  not_nine l e =
      split (in_range c && ltb t thread_count)
      (λ b. let q = in_bounds b in not_judged StateLength refl (sym (by_rules l q.0 q.1) ∙ e))
      (λ b. let q : Err Shape ≡ Err StateLength = sym (one l (λ z. false≢true (sym b ∙ rw (record_ok c z.0, lt-ltb t thread_count z.1)))) ∙ e in differ (cc))

  not_one : RecordIn c → t < 3 → verdict_of c t w s ≢ Err Shape
  unfolding verdict_of
  not_one r h e =
      split (sized s)
      (λ b. not_judged Shape refl (sym (by_rules (lengths_of s (sizes s b)) r h) ∙ e))
      (λ b. let q : Err StateLength ≡ Err Shape = rw b at e in differ (cc))

  done_lengths : verdict_of c t w s ≡ Ok tt → judgement c t w ≡ Ok tt
  unfolding verdict_of
  done_lengths e = go (sized s) (in_range c && ltb t thread_count) e
    where
      go : (size range : Bool) → cond size (cond range (judgement c t w) (Err Shape)) (Err StateLength) ≡ Ok tt → judgement c t w ≡ Ok tt
      go true true e = e
      go true false e = absurd (never e)
      go false range e = absurd (never e)

  pub step_demand1 : StepDemand1 c t w s
  unfolding stepped_of state_of step_answer
  step_demand1 =
      record {
        kept = λ r e. rw e;
        record_kept = λ r e. rw e;
        tabled = tabled;
        bit = λ r e. told_of w r (step_bit c t w s r e);
        three = λ l i h b o. by_rules l i h ∙ judged_three c t w b o;
        answered = λ r e. rw e;
        answered_done = λ e. rw e;
        nine = nine;
        not_nine = not_nine;
        one = one;
        not_one = not_one;
        broken = λ l i h r e. (judged r (sym (by_rules l i h) ∙ e)).broken;
        lowest = λ l i h r e. (judged r (sym (by_rules l i h) ∙ e)).lower;
        unbroken = λ e. unjudged (done_lengths e);
        done = λ l i h u. by_rules l i h ∙ judged_done u;
      }
