-- A record whose address slots are those that were read is written whole when all but its slots' numbers are. Assumes nothing.
use mathlib.Core.Path.{◌≡◌, sym, ap, ◌∙◌}
use mathlib.Core.Bool.{true, false}
use mathlib.Core.List.{List}
use mathlib.Mathlib.Data.Bool.Basic.{or-eq-false-eq-eq-false-and-eq-false}
use Prim.Native.Nat.{ℕ, ◌-◌, ◌/◌, ◌%◌, ◌<◌}
use native.Mathlib.Omega.{arith}
use lib.Dec.{ltb}
use lib.ListN.{length, get_or}
use lib.Seq.{ext_get_or}
use borrow.Author.Tests.{eq-eqb}
use Rattle.cells.specs.Cells.{between}
use Rattle.cells.proofs.Cells.{split, length_over, over_in, over_out, between_in}
use Rattle.control.specs.Record.{zero_slot, thread_at}
use Rattle.control.specs.Range.{in_range}
use Rattle.control.specs.declared.Slot.{Slot}
use Rattle.control.specs.declared.Control.{Control}
use Rattle.numbers.specs.Places.{own_length, slot_length, shared_length, thread_length, record_length}
use Rattle.numbers.specs.Lists.{slot_number_at, thread_number, number_at, record_over, outside_slots, but_slots_over}
use Rattle.numbers.specs.Record.{record_of}
use Rattle.numbers.proofs.Stands.{in_range_long}
use Rattle.numbers.proofs.RoundTrip.{taken_whole}

-- the number at a slot's place is the slots' alone
slot_number_lem : (c d : Control) (p : ℕ) → outside_slots p ≡ false → ((t : ℕ) → (thread_at d t).slots ≡ (thread_at c t).slots) → number_at d p ≡ number_at c p
unfolding outside_slots number_at thread_number
slot_number_lem c d p h same =
    let o = (or-eq-false-eq-eq-false-and-eq-false (ltb p shared_length) (ltb ((p - shared_length) % thread_length) own_length)).0 h in
    let q = (p - shared_length) % thread_length - own_length in
    rw (o.0, o.1) (ap (λ (l : List Slot). slot_number_at (get_or l (q / slot_length) zero_slot) (q % slot_length)) (same ((p - shared_length) / thread_length)))

pub slots_stand : (c : Control) (l : List ℕ) → in_range (record_of l) ≡ true → ((t : ℕ) → (thread_at c t).slots ≡ (thread_at (record_of l) t).slots)
    → but_slots_over c l ≡ record_over c l
unfolding but_slots_over
slots_stand c l ok same =
    let long = in_range_long l ok in
    rw (eq-eqb _ _ long) (ext_get_or 0 _ _ (length_over outside_slots (number_at c) l ∙ sym (length_over (between 0 record_length) (number_at c) l))
    (λ p b.
    let i : p < length l = rw length_over at b in
    let j : p < record_length = omega arith in
    split (outside_slots p) (λ t. over_in outside_slots (number_at c) l p 0 t i)
    (λ f. over_out outside_slots (number_at c) l p 0 f ∙ taken_whole l ok p j ∙ sym (slot_number_lem (record_of l) c p f same))
    ∙ sym (over_in (between 0 record_length) (number_at c) l p 0 (between_in 0 record_length p (omega arith) j) i)))
