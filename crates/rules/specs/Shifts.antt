-- SHIFTXA, SHIFTXB: document 01, "What each does", all but the numbers. Definitions only.
use Rattle.std.specs.Prelude.{ℕ, ◌+◌, ◌%◌, ltb}
use Rattle.cells.specs.declared.layout.Span.{Span}
use Rattle.cells.specs.Layout.{bank_rows, bank_row, span, no_span}
use Rattle.word.specs.declared.ShiftB.{ShiftB}
use Rattle.control.specs.declared.Control.{Control}
use Rattle.control.specs.Record.{thread_at}
use Rattle.rules.specs.Vocabulary.{BankA, BankB, Slot, Meaning, quiet, ◌·◌, undefined_if, needing, reading, setting, moving, rows_read, rows_set}

-- SHIFTXA writes rows 0..15 of the matrix bank
unfoldable pub shifted_a : Control → Span
shifted_a c = span (bank_row c.a.matrix 0) 16

-- it has the modes 2 and 3, and needs A; it reads the 16 rows from the last SrcA row on, and sets rows 0..15
abbrev pub shift_a_meaning : ℕ → Meaning
shift_a_meaning mode =
    quiet
    · undefined_if (ltb mode 2)
    · needing BankA
    · reading (λ c t. rows_read (span (bank_row c.a.matrix c.last) 16) no_span no_span)
    · setting (λ c t. rows_set (shifted_a c) no_span)

-- SHIFTXB works on row (row + SrcB counter) mod 64 of the matrix bank
unfoldable pub shifted_b : Control → ℕ → ShiftB → ℕ
shifted_b c t s = bank_row c.b.matrix ((s.row + (thread_at c t).b.at.0) % bank_rows)

-- it needs B, and reads its row; then slot
abbrev pub shift_b_meaning : ShiftB → Meaning
shift_b_meaning s =
    quiet · needing BankB · reading (λ c t. rows_read no_span (span (shifted_b c t s) 1) no_span) · moving (Slot s.slot)
