-- `step::step` meets its contract. Assumes nothing.
use Rattle.std.specs.Prelude.{Result, Ok, Err, ⊤}
use Rattle.step.proofs.Verdicts.{Left, stopped, by_length, by_record, by_thread, by_rule, performed_refused, performed_done, slot_under}
use Rattle.step.specs.Step.{with_record, stopped_answer, step_of, stepped_of, state_of, step_answer, Stepped}
use Rattle.rules.proofs.Reading.{judged_refused}
use Rattle.rules.proofs.ByCore.{leaves}
use Rattle.rules.specs.Rules.{verdict_answer}
use Rattle.control.proofs.Joined.{joined_back}
use Rattle.control.specs.Halves.{core_of, choices_of, joined}
use Rattle.control.specs.Range.{in_range}
use Rattle.control.specs.declared.Core.{Core}
use Rattle.control.specs.declared.Control.{Control}
use Rattle.cells.specs.State.{State, state, sized}
use Rattle.cells.specs.Layout.{thread_count}
use lib.ListN.{length}
use mathlib.Core.Bool.{true}
use Prim.Native.Nat.{ℕ}
use native.Mathlib.Omega.{arith}
use mathlib.Core.Path.{◌≡◌, refl, sym, ap, ◌∙◌}
use Rattle.step.proofs.step.Goals as goal
use Rattle.word.specs.declared.Refusal.{Refusal}
use Rattle.step.specs.declared.Stopped.{Stopped}

-- the clauses, by what is answered and left
abbrev Says : Control → ℕ → ℕ → State → Result Control Stopped → State → Type 0
Says c t w s r now = record { after : r ≡ step_of c t w s; left : now ≡ state_of c t w s; number : stopped_answer r ≡ step_answer c t w s }

told : (c : Control) (t w : ℕ) (s : State) (v : Result ⊤ Refusal) (r : Control) {now : State} → Left c t w s (stopped v r) now → Says c t w s (with_record v r) now
unfolding step_of stepped_of step_answer
told c t w s v r q =
    let e : with_record v r ≡ step_of c t w s = ap (λ (x : Stepped). with_record x.verdict x.control) q.answer in
    record { after = e; left = q.state; number = same v r ∙ ap (λ (r : Stepped). verdict_answer r.verdict) q.answer }
  where
    same : (v : Result ⊤ Refusal) (r : Control) → stopped_answer (with_record v r) ≡ verdict_answer v
    same (Ok u) r = refl
    same (Err x) r = refl

-- the core with the record's own address slots is the record
back : (c : Control) → length c.threads ≡ thread_count → {k : Core} → k ≡ core_of c → joined k (choices_of c) ≡ c
back c three e = ap (λ (k : Core). joined k (choices_of c)) e ∙ joined_back c three

pub returns-then-not-right_sizes : goal.returns-then-not-right_sizes
returns-then-not-right_sizes c = let a = c.args in
    let s = state a.srca.now a.srcb.now a.dst.now a.registers.now in
    rw c.refused.ensures (told a.control a.thread a.word s _ _ (by_length a.control a.thread a.word s (sym c.right_sizes.ensures ∙ c.if-not-right_sizes.true)))

pub returns-then-not-in_range : goal.returns-then-not-in_range
returns-then-not-in_range c = let a = c.args in
    let s = state a.srca.now a.srcb.now a.dst.now a.registers.now in
    let size : sized s ≡ true = sym c.right_sizes.ensures ∙ c.if-not-right_sizes.false in
    rw c.refused-then-not-in_range.ensures (told a.control a.thread a.word s _ _ (by_record a.control a.thread a.word s size (sym c.in_range.ensures ∙ c.if-not-in_range.true)))

pub returns-then-thread-ge-THREADS : goal.returns-then-thread-ge-THREADS
returns-then-thread-ge-THREADS c = let a = c.args in
    let s = state a.srca.now a.srcb.now a.dst.now a.registers.now in
    let size : sized s ≡ true = sym c.right_sizes.ensures ∙ c.if-not-right_sizes.false in
    rw c.refused-then-thread-ge-THREADS.ensures (told a.control a.thread a.word s _ _ (by_thread a.control a.thread a.word s size c.if-thread-ge-THREADS.true))

pub returns-in_default : goal.returns-in_default
returns-in_default c = let a = c.args in
    let s = state a.srca.now a.srcb.now a.dst.now a.registers.now in
    let size : sized s ≡ true = sym c.right_sizes.ensures ∙ c.if-not-right_sizes.false in
    let range : in_range a.control ≡ true = sym c.in_range.ensures ∙ c.if-not-in_range.false in
    let is = judged_refused a.control a.thread a.word _ (sym c.read_word-read.ensures.operands ∙ c.in_default.is) in
    rw (c.with_record.ensures, c.verdict_of.ensures.verdict, c.in_default.is)
    (told a.control a.thread a.word s _ _ (by_rule a.control a.thread a.word s size range c.if-thread-ge-THREADS.false _ is))

pub returns-in-Err : goal.returns-in-Err
returns-in-Err c = let a = c.args in
    let s = state a.srca.now a.srcb.now a.dst.now a.registers.now in
    let h = choices_of a.control in
    let same = back a.control (omega arith) c.from-k.ensures in
    let p = c.perform in
    rw c.refused-in-Err.ensures
    (told a.control a.thread a.word s _ _
    (performed_refused a.control a.thread a.word s (sym c.right_sizes.ensures ∙ c.if-not-right_sizes.false) (sym c.in_range.ensures ∙ c.if-not-in_range.false) c.if-thread-ge-THREADS.false c.in-Ok.f (sym c.read_word-read.ensures.operands ∙ c.in-Ok.is) _ same _ (p.ensures.verdict h) _ (p.ensures.left h) _ c.in-Err.is))

pub returns-then-leaves_record : goal.returns-then-leaves_record
returns-then-leaves_record c = let a = c.args in
    let s = state a.srca.now a.srcb.now a.dst.now a.registers.now in
    let h = choices_of a.control in
    let same = back a.control (omega arith) c.from-k.ensures in
    let p = c.perform in
    let stays = leaves (joined c.from-k.result h) a.thread c.in-Ok.f (sym c.leaves_record.ensures ∙ c.if-leaves_record.true) in
    told a.control a.thread a.word s _ _
    (performed_done a.control a.thread a.word s (sym c.right_sizes.ensures ∙ c.if-not-right_sizes.false) (sym c.in_range.ensures ∙ c.if-not-in_range.false) c.if-thread-ge-THREADS.false c.in-Ok.f (sym c.read_word-read.ensures.operands ∙ c.in-Ok.is) _ same _ (p.ensures.verdict h) _ (p.ensures.left h) c.in_default-perform.is _ (sym same ∙ sym stays))

pub returns : goal.returns
returns c = let a = c.args in
    let s = state a.srca.now a.srcb.now a.dst.now a.registers.now in
    let h = choices_of a.control in
    let same = back a.control (omega arith) c.from-k.ensures in
    let p = c.perform in
    let slot = slot_under same a.thread c.in-Ok.f c.slot_used-slot.ensures c.thread_at.ensures c.slot_number.ensures in
    let after = c.core_after.ensures h slot in
    told a.control a.thread a.word s _ _
    (performed_done a.control a.thread a.word s (sym c.right_sizes.ensures ∙ c.if-not-right_sizes.false) (sym c.in_range.ensures ∙ c.if-not-in_range.false) c.if-thread-ge-THREADS.false c.in-Ok.f (sym c.read_word-read.ensures.operands ∙ c.in-Ok.is) _ same _ (p.ensures.verdict h) _ (p.ensures.left h) c.in_default-perform.is _ (c.with_core.ensures ∙ after))
