-- `control::range::slots_ok` meets its contract: before each slot those before it were tested. Assumes nothing.
use Prim.Native.Nat.{ℕ}
use lib.ListN.{get_or}
use Rattle.control.specs.Record.{slot_count, zero_slot}
use Rattle.control.specs.Range.{slot_ok}
use Rattle.control.proofs.Arrays.{Passed}
use Rattle.control.proofs.range.slots_ok.Given as goal

abbrev pub invariant-loop-slot : goal.invariant-loop-slot
invariant-loop-slot l = Passed (λ (k : ℕ). slot_ok (get_or l.fn.slots k zero_slot)) slot_count l.all l.slot-index
