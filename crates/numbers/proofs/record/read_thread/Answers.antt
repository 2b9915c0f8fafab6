-- `numbers::record::read_thread` meets its contract: before slot s each slot was read and compared, then its own numbers. Assumes nothing.
use mathlib.Core.Path.{◌≡◌, refl, ap, ◌∙◌}
use mathlib.Core.Bool.{Bool, ◌&&◌}
use mathlib.Core.List.{List}
use Prim.Native.Nat.{ℕ, ◌+◌, ◌*◌}
use native.Mathlib.Omega.{arith}
use lib.ListN.{length}
use Rattle.cells.proofs.Tables.{get_d_table, filled_more, filled_all}
use Rattle.control.specs.Record.{slot_count, zero_slot}
use Rattle.control.specs.declared.Slot.{Slot}
use Rattle.control.specs.declared.Thread.{Thread}
use Rattle.numbers.specs.Places.{own_length, slot_length, thread_length}
use Rattle.numbers.specs.Lists.{own_numbers, slot_numbers, slot_number_at, thread_number, same_from}
use Rattle.numbers.specs.Record.{slot_from, slots_from, own_from, thread_from, number_from}
use Rattle.numbers.proofs.Parts.{Same, own_at_lem, slot_from_lem, same_list, same_first, same_rest}
use Rattle.numbers.proofs.Tested.{gives, gives_none}
use Rattle.numbers.proofs.record.read_thread.Goals as goal

pub loop-s-preserved : goal.loop-s-preserved
unfolding thread_from slots_from slot_number_at
loop-s-preserved c = let v = c.loop-s in
    let n = number_from c.args.n.now in
    let b = c.args.b in
    let slot : ℕ → Slot = λ s. slot_from n (b + own_length + slot_length * s) in
    let read = c.read_slot-read.ensures in (
      filled_more v.invariant.0 c.loop-s-test.true read,
      same_list _ (c.slot_numbers.ensures ∙ ap (λ (x : Slot). slot_numbers x) read) v.invariant.1 c.stand-same.ensures refl
          (λ i h. slot_from_lem (thread_from n b) v.s i _ h (omega arith) ∙ ap (λ (x : Slot). slot_number_at x i) (get_d_table slot_count slot zero_slot v.s c.loop-s-test.true)) (omega arith),
    )

-- what was read, and whether its numbers stand
threaded : (n : ℕ → ℕ) (b k : ℕ) {slots : List Slot} {x : Thread} {xs : List ℕ} {own same : Bool} → slots ≡ slots_from n (b + own_length) → x ≡ own_from n b slots → xs ≡ own_numbers x
    → own ≡ same_from b (length xs) (number_from xs) n
    → Same (b + own_length) (λ (i : ℕ). thread_number (thread_from n b) (own_length + i)) n same (slot_length * k) → own_length + slot_length * k ≡ thread_length
    → (x ≡ thread_from n b) × (own && same ≡ same_from b thread_length (thread_number (thread_from n b)) n)
unfolding thread_from
threaded n b k s r q o w e =
    let thread = r ∙ ap (λ (l : List Slot). own_from n b l) s in
    let own = same_first {n = n} b (thread_number (thread_from n b)) (q ∙ ap (λ (x : Thread). own_numbers x) thread) o (own_at_lem (thread_from n b)) in
    (thread, same_rest (slot_length * k) thread_length own w e)

pub returns-then-stand-same : goal.returns-then-stand-same
unfolding slots_from
returns-then-stand-same c = let v = c.loop-s in
    let t = threaded (number_from c.args.n.now) c.args.b v.s (filled_all v.invariant.0 c.loop-s-test.false) c.read_own-thread.ensures c.own_numbers.ensures c.stand.ensures v.invariant.1 (omega (arith, v.invariant.0.inside)) in
    gives t.0 t.1 c.if-stand-same.true

pub returns-else-stand-same : goal.returns-else-stand-same
unfolding slots_from
returns-else-stand-same c = let v = c.loop-s in
    let t = threaded (number_from c.args.n.now) c.args.b v.s (filled_all v.invariant.0 c.loop-s-test.false) c.read_own-thread.ensures c.own_numbers.ensures c.stand.ensures v.invariant.1 (omega (arith, v.invariant.0.inside)) in
    gives_none _ t.1 c.if-stand-same.false
