-- What a step on the numbers of a record is, by the step on the record that they stand for. Assumes nothing.
use Rattle.std.specs.Prelude.{⊤, Result, Ok, Err}
use mathlib.Core.Path.{◌≡◌, refl, sym, ap, ◌∙◌}
use mathlib.Core.Bool.{true}
use mathlib.Core.List.{List}
use Prim.Native.Nat.{ℕ}
use native.Mathlib.Omega.{arith}
use lib.Dec.{ltb}
use borrow.Author.Tests.{ltb-false}
use Rattle.cells.specs.Layout.{thread_count}
use Rattle.cells.specs.State.{State, sized}
use Rattle.cells.proofs.Cells.{split}
use Rattle.word.specs.declared.Refusal.{Refusal}
use Rattle.step.specs.declared.Stopped.{Stopped}
use Rattle.control.specs.Record.{thread_at}
use Rattle.control.specs.Range.{in_range}
use Rattle.control.specs.declared.Control.{Control}
use Rattle.numbers.specs.Lists.{record_over, but_slots_over}
use Rattle.numbers.specs.Record.{record_of}
use Rattle.numbers.proofs.ButSlots.{slots_stand}
use Rattle.rules.specs.Rules.{verdict_answer}
use Rattle.step.specs.Step.{if_done, with_record, stopped_answer, step_of, stepped_of, state_of, step_answer, Stepped}
use Rattle.step.proofs.Verdicts.{Left, by_length, by_record, by_thread}
use Rattle.capi.specs.Step.{thread_byte, numbers_after}
use Rattle.capi.proofs.SlotsKept.{stepped_slots}

refused_not_done : (x : Refusal) → ◌≡◌ {A = Result ⊤ Refusal} (Err x) (Ok tt) → ⊥
refused_not_done x e = let z : ◌≡◌ {A = ℕ} 0 1 = cc in omega arith

module _ (c : Control) (t w : ℕ) (s : State) where
  -- threads out of range are refused alike
  same_thread_lem : (stepped_of c (thread_byte t) w s ≡ stepped_of c t w s) × (state_of c (thread_byte t) w s ≡ state_of c t w s)
  same_thread_lem =
      split (ltb t thread_count)
      (λ e. rw e (refl, refl))
      (λ e. rw e (split (sized s)
      (λ z. alike (by_thread c thread_count w s z (omega arith)) (by_thread c t w s z (ltb-false t thread_count e)))
      (λ z. alike (by_length c thread_count w s z) (by_length c t w s z))))
    where
      alike : {r : Stepped} {after : State} → Left c thread_count w s r after → Left c t w s r after
          → (stepped_of c thread_count w s ≡ stepped_of c t w s) × (state_of c thread_count w s ≡ state_of c t w s)
      alike p q = (sym p.answer ∙ q.answer, sym p.state ∙ q.state)

  pub done_in_range : (stepped_of c t w s).verdict ≡ Ok tt → in_range c ≡ true
  done_in_range h =
      split (in_range c) (λ e. e)
      (λ e. absurd (split (sized s)
      (λ z. never (by_record c t w s z e))
      (λ z. never (by_length c t w s z))))
    where
      never : {x : Refusal} {after : State} → Left c t w s (record { verdict = Err x; control = c }) after → ⊥
      never {x} p = refused_not_done x (ap (λ (r : Stepped). r.verdict) p.answer ∙ h)

-- the verdict of an answer, and of one that is done the record
abbrev stopped : Refusal → Control → Stopped
stopped r c = record { refusal = r; control = c }

with_refused : (v : Result ⊤ Refusal) (c : Control) (x : Stopped) → with_record v c ≡ Err x → v ≡ Err x.refusal
with_refused (Ok u) c x e = absurd (let z : ◌≡◌ {A = ℕ} 0 1 = cc in omega arith)
with_refused (Err r) c x e = let k : stopped r c ≡ x = cc in ap (λ (y : Stopped). Err y.refusal) k

with_done : (v : Result ⊤ Refusal) (c d : Control) → with_record v c ≡ Ok d → (v ≡ Ok tt) × (d ≡ c)
with_done (Ok u) c d e = (refl, cc)
with_done (Err r) c d e = absurd (let z : ◌≡◌ {A = ℕ} 0 1 = cc in omega arith)

module _ (l : List ℕ) (t w : ℕ) (s : State) where
  -- what a step on the numbers of a record answers and leaves, by what the step on the record gave: r
  pub record Did (r : Result Control Stopped) (after : State) : Type 0 where
    pub answer : stopped_answer r ≡ step_answer (record_of l) t w s
    pub state : after ≡ state_of (record_of l) t w s
    pub refused : (x : Stopped) → r ≡ Err x → l ≡ numbers_after l t w s
    pub done : (d : Control) → r ≡ Ok d → but_slots_over d l ≡ numbers_after l t w s

  pub did : {c : Control} {b : ℕ} {r : Result Control Stopped} {after : State} → c ≡ record_of l → b ≡ thread_byte t → r ≡ step_of c b w s → after ≡ state_of c b w s → Did r after
  unfolding step_of step_answer numbers_after stepped_of
  did {c} {b} {r} {after} e f g k =
      let z = stepped_of (record_of l) t w s in
      let q : r ≡ with_record z.verdict z.control =
      g ∙ (λ i. step_of (e i) (f i) w s) ∙ ap (λ (x : Stepped). with_record x.verdict x.control) (same_thread_lem (record_of l) t w s).0 in
      record {
        answer = ap stopped_answer q ∙ same_answer z.verdict z.control;
        state = k ∙ (λ i. state_of (e i) (f i) w s) ∙ (same_thread_lem (record_of l) t w s).1;
        refused = λ x d. let v = with_refused z.verdict z.control x (sym q ∙ d) in
            sym (ap (λ (v : Result ⊤ Refusal). if_done v (record_over z.control l) l) v);
        done = λ d h. let v = with_done z.verdict z.control d (sym q ∙ h) in
            slots_stand d l (done_in_range (record_of l) t w s v.0)
            (λ k. ap (λ (x : Control). (thread_at x k).slots) v.1 ∙ (stepped_slots (record_of l) t w s).slots k)
            ∙ ap (λ (x : Control). record_over x l) v.1
            ∙ sym (ap (λ (v : Result ⊤ Refusal). if_done v (record_over z.control l) l) v.0);
      }
    where
      same_answer : (v : Result ⊤ Refusal) (c : Control) → stopped_answer (with_record v c) ≡ verdict_answer v
      same_answer (Ok u) c = refl
      same_answer (Err r) c = refl
