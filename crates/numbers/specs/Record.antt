-- The record that numbers stand for. Definitions only.
use Rattle.std.specs.Prelude.{Bool, cond, Option, Some, None, ◌&&◌, List, ℕ, ◌+◌, ◌*◌, ◌%◌, eqb, length, get_or}
use Rattle.cells.specs.Layout.{thread_count}
use Rattle.cells.specs.Cells.{tabulate}
use Rattle.cells.specs.Tests.{below}
use Rattle.control.specs.Record.{slot_count, start, with_last}
use Rattle.control.specs.declared.Slot.{Slot}
use Rattle.control.specs.declared.Thread.{Thread}
use Rattle.control.specs.declared.Settings.{Settings}
use Rattle.control.specs.declared.Banks.{Banks}
use Rattle.control.specs.declared.Control.{Control}
use Rattle.numbers.specs.Places.{own_length, slot_length, shared_length, thread_length, record_length, banks_a, banks_b, last_row}
use Rattle.numbers.specs.Lists.{number_at, thread_number, same_from}

-- numbers of 8 and of 16 bits, and a flag; `stands`, below, finds what does not fit
abbrev pub byte : ℕ → ℕ
byte x = x % 256

abbrev pub half : ℕ → ℕ
half x = x % 65536

abbrev pub on : ℕ → Bool
on x = eqb x 1

-- ---- the parts, from place b on; n gives the number at a place

abbrev pub settings_from : (ℕ → ℕ) → Settings
settings_from n =
    record {
      format = byte (n 0);
      fp32 = on (n 1);
      int8 = on (n 2);
      fp16a = on (n 3);
      base = half (n 4);
      keep = record { a = on (n 5); b = on (n 6) };
    }

abbrev pub banks_from : (ℕ → ℕ) → ℕ → Banks
banks_from n b = record { matrix = byte (n b); unpack = byte (n (b + 1)); owned0 = on (n (b + 2)); owned1 = on (n (b + 3)) }

abbrev pub slot_from : (ℕ → ℕ) → ℕ → Slot
slot_from n b =
    record {
      a = record { step = record { 0 = byte (n b) }; clear = on (n (b + 1)); carry = on (n (b + 2)) };
      b = record { step = record { 0 = byte (n (b + 3)) }; clear = on (n (b + 4)); carry = on (n (b + 5)) };
      dst = record { step = record { 0 = half (n (b + 6)) }; clear = on (n (b + 7)); carry = on (n (b + 8)); copy = on (n (b + 9)) };
      phase = record { step = byte (n (b + 10)); clear = on (n (b + 11)) };
    }

unfoldable pub slots_from : (ℕ → ℕ) → ℕ → List Slot
slots_from n b = tabulate slot_count (λ (s : ℕ). slot_from n (b + slot_length * s))

-- a thread's own numbers, with its slots
abbrev pub own_from : (ℕ → ℕ) → ℕ → List Slot → Thread
own_from n b slots =
    record {
      dst = record { at = record { 0 = half (n b) }; carry = record { 0 = half (n (b + 1)) } };
      a = record { at = record { 0 = byte (n (b + 2)) }; carry = record { 0 = byte (n (b + 3)) } };
      b = record { at = record { 0 = byte (n (b + 4)) }; carry = record { 0 = byte (n (b + 5)) } };
      phase = byte (n (b + 6));
      extra = on (n (b + 7));
      offset = half (n (b + 8));
      fidelity = byte (n (b + 9));
      slots = slots;
    }

unfoldable pub thread_from : (ℕ → ℕ) → ℕ → Thread
thread_from n b = own_from n b (slots_from n (b + own_length))

unfoldable pub control_from : (ℕ → ℕ) → Control
control_from n =
    record {
      settings = settings_from n;
      threads = tabulate thread_count (λ (t : ℕ). thread_from n (shared_length + thread_length * t));
      a = banks_from n banks_a;
      b = banks_from n banks_b;
      last = byte (n last_row);
    }

-- ---- the record

abbrev pub number_from : List ℕ → ℕ → ℕ
number_from l p = get_or l p 0

abbrev pub read_of : List ℕ → Control
read_of l = control_from (number_from l)

-- a list stands for a record when it is the list of the record's numbers
unfoldable pub numbers_of : List ℕ → Control → Bool
numbers_of l c = below (λ (p : ℕ). eqb (number_from l p) (number_at c p)) record_length

unfoldable pub stands : List ℕ → Bool
stands l = eqb (length l) record_length && numbers_of l (read_of l)

-- the record that a list stands for
abbrev pub record_read : List ℕ → Option Control
record_read l = cond (stands l) (Some (read_of l)) None

-- the thread whose numbers stand from place b on
abbrev pub thread_read : (ℕ → ℕ) → ℕ → Option Thread
thread_read n b = cond (same_from b thread_length (thread_number (thread_from n b)) n) (Some (thread_from n b)) None

-- for another length, a flag above 1 or a number too large for its place: a record out of range, which a step refuses with 1
abbrev pub no_record : Control
no_record = with_last start 1

unfoldable pub record_of : List ℕ → Control
record_of l = cond (stands l) (read_of l) no_record
