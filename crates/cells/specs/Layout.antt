-- Document 01, "The lent state and the control record" and "The job": each size once, and where a row or a register stands in its file. The code's
-- constants of the same names are in src/layout.rt. Definitions only.
use Rattle.std.specs.Prelude.{ℕ, ◌+◌, ◌*◌, ◌^◌}
use Rattle.cells.specs.declared.layout.Span.{Span}

-- sixteen numbers to a row
abbrev pub column_count : ℕ
column_count = 16

-- SrcA and SrcB: 2 banks of 64 rows
abbrev pub bank_count : ℕ
bank_count = 2

abbrev pub bank_rows : ℕ
bank_rows = 64

-- Dst: 512 lent rows
abbrev pub dst_rows : ℕ
dst_rows = 512

-- registers: 3 threads of 64
abbrev pub thread_count : ℕ
thread_count = 3

abbrev pub thread_registers : ℕ
thread_registers = 64

-- a Src value is below 2^19
abbrev pub src_limit : ℕ
src_limit = 2 ^ 19

-- a job has at most 8,192 bytes
abbrev pub job_bytes : ℕ
job_bytes = 8192

-- ---- what follows

abbrev pub src_rows : ℕ
src_rows = bank_count * bank_rows

abbrev pub src_numbers : ℕ
src_numbers = src_rows * column_count

abbrev pub dst_numbers : ℕ
dst_numbers = dst_rows * column_count

abbrev pub register_count : ℕ
register_count = thread_count * thread_registers

-- ---- places, counted from the start of a file

-- row r of bank p
abbrev pub bank_row : ℕ → ℕ → ℕ
bank_row p r = p * bank_rows + r

-- register r of thread t
abbrev pub register : ℕ → ℕ → ℕ
register t r = t * thread_registers + r

-- the first number of row r, and the one in its column j
abbrev pub row_start : ℕ → ℕ
row_start r = r * column_count

abbrev pub cell : ℕ → ℕ → ℕ
cell r j = row_start r + j

-- ---- spans of rows or registers

abbrev pub span : ℕ → ℕ → Span
span first count = record { first = first; count = count }

-- no row at all
abbrev pub no_span : Span
no_span = span 0 0

-- all rows of bank p
abbrev pub bank_span : ℕ → Span
bank_span p = span (bank_row p 0) bank_rows

-- register r of thread t, alone
abbrev pub one_register : ℕ → ℕ → Span
one_register t r = span (register t r) 1
