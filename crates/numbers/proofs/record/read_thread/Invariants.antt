-- `numbers::record::read_thread` meets its contract: before slot s each slot was read and compared. Assumes nothing.
use Prim.Native.Nat.{ℕ, ◌+◌, ◌*◌}
use Rattle.cells.proofs.Tables.{Filled}
use Rattle.control.specs.Record.{slot_count}
use Rattle.numbers.specs.Places.{own_length, slot_length}
use Rattle.numbers.specs.Lists.{thread_number}
use Rattle.numbers.specs.Record.{slot_from, thread_from, number_from}
use Rattle.numbers.proofs.Parts.{Same}
use Rattle.numbers.proofs.record.read_thread.Given as goal

abbrev pub invariant-loop-s : goal.invariant-loop-s
invariant-loop-s l = (Filled (λ (k : ℕ). slot_from (number_from l.fn.n) (l.fn.b + own_length + slot_length * k)) slot_count l.slot-items l.s)
    × Same (l.fn.b + own_length) (λ (i : ℕ). thread_number (thread_from (number_from l.fn.n) l.fn.b) (own_length + i)) (number_from l.fn.n) l.same (slot_length * l.s)
