-- A step leaves every address slot as it was. Assumes nothing.
use Rattle.std.specs.Prelude.{Result, Ok, Err, ⊤}
use mathlib.Core.Path.{◌≡◌, refl, ◌∙◌}
use mathlib.Core.List.{List, [], ◌∷◌}
use Prim.Native.Nat.{ℕ, zero, suc}
use lib.ListN.{length, get_or, set, length-set}
use Rattle.cells.specs.State.{State}
use Rattle.control.specs.Record.{start_thread, thread_at, with_thread}
use Rattle.control.specs.Change.{clear_banks, apply_slot, move_on, set_counters, add_counters}
use Rattle.control.specs.declared.Thread.{Thread}
use Rattle.control.specs.declared.Control.{Control}
use Rattle.rules.specs.After.{acting, control_after}
use Rattle.rules.proofs.AfterKeeps.{Keeps, record_after_keeps}
use Rattle.step.specs.Step.{verdict_of, if_done, stepped_of}
use Rattle.word.specs.declared.Refusal.{Refusal}

-- d has the threads of c but for what is no slot
pub record SameSlots (c d : Control) : Type 0 where
  pub threads : length d.threads ≡ length c.threads
  pub slots : (t : ℕ) → (thread_at d t).slots ≡ (thread_at c t).slots

set_slots : (x : Thread) (l : List Thread) (t k : ℕ) → x.slots ≡ (get_or l t start_thread).slots → (get_or (set l t x) k start_thread).slots ≡ (get_or l k start_thread).slots
set_slots x [] t k h = refl
set_slots x (y ∷ l) zero zero h = h
set_slots x (y ∷ l) zero (suc k) h = refl
set_slots x (y ∷ l) (suc t) zero h = refl
set_slots x (y ∷ l) (suc t) (suc k) h = set_slots x l t k h

module _ (c : Control) where
  -- a thread whose slots stay
  counted : (d : Control) (t : ℕ) (x : Thread) → x.slots ≡ (thread_at d t).slots → SameSlots c d → SameSlots c (with_thread d t x)
  counted d t x h s = record { threads = length-set d.threads t x ∙ s.threads; slots = λ k. set_slots x d.threads t k h ∙ s.slots k }

  slots_keep : Keeps (SameSlots c)
  unfolding clear_banks move_on apply_slot set_counters add_counters
  slots_keep =
      record {
        clear = λ d f s. record { threads = s.threads; slots = s.slots };
        slot = λ d t n s. counted d t _ refl s;
        last = λ d n s. record { threads = s.threads; slots = s.slots };
        set = λ d t which x b a s. counted d t _ refl s;
        add = λ d t x b a s. counted d t _ refl s;
      }

  same : SameSlots c c
  same = record { threads = refl; slots = λ t. refl }

  pub after_slots : (t w : ℕ) → SameSlots c (control_after c t w)
  unfolding control_after
  after_slots t w = record_after_keeps (SameSlots c) slots_keep c t (acting w) same

  pub stepped_slots : (t w : ℕ) (s : State) → SameSlots c (stepped_of c t w s).control
  unfolding stepped_of
  stepped_slots t w s = go (verdict_of c t w s)
    where
      go : (v : Result ⊤ Refusal) → SameSlots c (if_done v (control_after c t w) c)
      go (Ok u) = after_slots t w
      go (Err x) = same
