-- A record that is read has all its threads and slots. Assumes nothing.
use mathlib.Core.Path.{◌≡◌, refl}
use mathlib.Core.List.{List, [], ◌∷◌}
use Prim.Native.Nat.{ℕ, zero, suc}
use lib.ListN.{length, get_or}
use Rattle.cells.specs.Layout.{thread_count}
use Rattle.cells.proofs.Cells.{split}
use Rattle.control.specs.Record.{slot_count, start_thread, start, thread_at}
use Rattle.control.specs.declared.Thread.{Thread}
use Rattle.control.specs.declared.Control.{Control}
use Rattle.numbers.specs.Record.{slots_from, thread_from, control_from, number_from, stands, no_record, record_of}

-- a record has three threads, and each has eight slots
pub record Whole (c : Control) : Type 0 where
  pub threads : length c.threads ≡ thread_count
  pub slots : (t : ℕ) → length (thread_at c t).slots ≡ slot_count

three_whole : (x y z : Thread) → length x.slots ≡ slot_count → length y.slots ≡ slot_count → length z.slots ≡ slot_count
    → (t : ℕ) → length (get_or (x ∷ y ∷ z ∷ []) t start_thread).slots ≡ slot_count
three_whole x y z h g f zero = h
three_whole x y z h g f (suc zero) = g
three_whole x y z h g f (suc (suc zero)) = f
three_whole x y z h g f (suc (suc (suc t))) = refl

read_whole : (n : ℕ → ℕ) → Whole (control_from n)
unfolding control_from thread_from slots_from
read_whole n = record { threads = refl; slots = three_whole _ _ _ refl refl refl }

none_whole : Whole no_record
unfolding start
none_whole = record { threads = refl; slots = three_whole _ _ _ refl refl refl }

pub record_whole : (l : List ℕ) → Whole (record_of l)
unfolding record_of
record_whole l = split (stands l) (λ e. rw e (read_whole (number_from l))) (λ e. rw e none_whole)
