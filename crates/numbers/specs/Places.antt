-- The control record as numbers, for callers in C: how many numbers each part has, and where it begins. The code's constants of the same names are in
-- src/places.rt, those of C in include/vintrazzola.h. Definitions only.
use Rattle.std.specs.Prelude.{ℕ, ◌+◌, ◌*◌}
use Rattle.cells.specs.Layout.{thread_count}
use Rattle.control.specs.Record.{slot_count}

-- the settings, a file's banks, a thread's own numbers, a slot
abbrev pub settings_length : ℕ
settings_length = 7

abbrev pub banks_length : ℕ
banks_length = 4

abbrev pub own_length : ℕ
own_length = 10

abbrev pub slot_length : ℕ
slot_length = 12

-- ---- what follows

-- the settings stand first; then SrcA's banks, SrcB's banks and the last SrcA row
abbrev pub banks_a : ℕ
banks_a = settings_length

abbrev pub banks_b : ℕ
banks_b = banks_a + banks_length

abbrev pub last_row : ℕ
last_row = banks_b + banks_length

-- what the threads share, a thread, a record
abbrev pub shared_length : ℕ
shared_length = last_row + 1

abbrev pub thread_length : ℕ
thread_length = own_length + slot_count * slot_length

abbrev pub record_length : ℕ
record_length = shared_length + thread_count * thread_length
