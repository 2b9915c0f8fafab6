-- The numbers of a record: the settings, the banks of each file, the last SrcA row, the threads; a flag is 0 or 1. Definitions only.
use Rattle.std.specs.Prelude.{Bool, true, false, cond, ◌||◌, List, [], ◌∷◌, ◌++◌, ℕ, ◌+◌, ◌-◌, ◌/◌, ◌%◌, eqb, ltb, length, get_or}
use Rattle.cells.specs.Cells.{over, between, within}
use Rattle.cells.specs.Tests.{below}
use Rattle.control.specs.Record.{zero_slot, thread_at}
use Rattle.control.specs.declared.Slot.{Slot}
use Rattle.control.specs.declared.Thread.{Thread}
use Rattle.control.specs.declared.Settings.{Settings}
use Rattle.control.specs.declared.Banks.{Banks}
use Rattle.control.specs.declared.Control.{Control}
use Rattle.numbers.specs.Places.{own_length, slot_length, shared_length, thread_length, record_length}

abbrev pub flag : Bool → ℕ
flag false = 0
flag true = 1

-- ---- what the threads share

-- SrcA format, Fp32, INT8, FP16A force, DEST_REGW_BASE, the switches of SrcA and SrcB
abbrev pub settings_numbers : Settings → List ℕ
settings_numbers s = s.format ∷ flag s.fp32 ∷ flag s.int8 ∷ flag s.fp16a ∷ s.base ∷ flag s.keep.a ∷ flag s.keep.b ∷ []

-- the matrix unit's pointer, the unpackers' pointer, the matrix unit owns bank 0, bank 1
abbrev pub banks_numbers : Banks → List ℕ
banks_numbers b = b.matrix ∷ b.unpack ∷ flag b.owned0 ∷ flag b.owned1 ∷ []

-- the settings, SrcA's banks, SrcB's banks, the last SrcA row
abbrev pub shared_numbers : Settings → Banks → Banks → ℕ → List ℕ
shared_numbers s a b last = settings_numbers s ++ (banks_numbers a ++ (banks_numbers b ++ (last ∷ [])))

-- ---- a thread

-- Dst, Dst_Cr, SrcA, SrcA_Cr, SrcB, SrcB_Cr, FidelityPhase, ExtraAddrModBit, math offset, fidelity base
abbrev pub own_numbers : Thread → List ℕ
own_numbers x =
    x.dst.at.0 ∷ x.dst.carry.0 ∷ x.a.at.0 ∷ x.a.carry.0 ∷ x.b.at.0 ∷ x.b.carry.0 ∷
    x.phase ∷ flag x.extra ∷ x.offset ∷ x.fidelity ∷ []

-- SrcA step, clear, carry; SrcB step, clear, carry; Dst step, clear, carry, copy; fidelity step, clear
abbrev pub slot_numbers : Slot → List ℕ
slot_numbers s =
    s.a.step.0 ∷ flag s.a.clear ∷ flag s.a.carry ∷
    s.b.step.0 ∷ flag s.b.clear ∷ flag s.b.carry ∷
    s.dst.step.0 ∷ flag s.dst.clear ∷ flag s.dst.carry ∷ flag s.dst.copy ∷
    s.phase.step ∷ flag s.phase.clear ∷ []

-- ---- the number at a place

unfoldable pub slot_number_at : Slot → ℕ → ℕ
slot_number_at s p = get_or (slot_numbers s) p 0

-- a thread's own numbers, then its slots
unfoldable pub thread_number : Thread → ℕ → ℕ
thread_number x p =
    cond (ltb p own_length) (get_or (own_numbers x) p 0)
    (slot_number_at (get_or x.slots ((p - own_length) / slot_length) zero_slot) ((p - own_length) % slot_length))

-- what the threads share, then the threads
unfoldable pub number_at : Control → ℕ → ℕ
number_at c p =
    cond (ltb p shared_length) (get_or (shared_numbers c.settings c.a c.b c.last) p 0)
    (thread_number (thread_at c ((p - shared_length) / thread_length)) ((p - shared_length) % thread_length))

-- the numbers of c over those of l
abbrev pub record_over : Control → List ℕ → List ℕ
record_over c l = over (between 0 record_length) (number_at c) l

-- ---- all but the address slots, which no instruction changes

-- place p is one of what the threads share, or of a thread's own numbers
unfoldable pub outside_slots : ℕ → Bool
outside_slots p = ltb p shared_length || ltb ((p - shared_length) % thread_length) own_length

-- the numbers of c but for its slots' over those of l; a list of another length than a record's stays
unfoldable pub but_slots_over : Control → List ℕ → List ℕ
but_slots_over c l = cond (eqb (length l) record_length) (over outside_slots (number_at c) l) l

-- ---- a part of a record: `count` numbers from place b on

-- they are those that f gives; n gives the number at a place
abbrev pub same_from : ℕ → ℕ → (ℕ → ℕ) → (ℕ → ℕ) → Bool
same_from b count f n = below (λ (i : ℕ). eqb (n (b + i)) (f i)) count

-- those that f gives over those of l
abbrev pub over_from : ℕ → ℕ → (ℕ → ℕ) → List ℕ → List ℕ
over_from b count f l = over (within b count) (λ (p : ℕ). f (p - b)) l
