-- Document 01, "The job": what a load of rows writes to the numbers of its file. Definitions only.
use Rattle.std.specs.Prelude.{List, ℕ, ◌-◌}
use Rattle.cells.specs.declared.layout.Span.{Span}
use Rattle.cells.specs.declared.Width.{Width}
use Rattle.cells.specs.Layout.{row_start}
use Rattle.cells.specs.Places.{over_rows_at}
use Rattle.job.specs.Kinds.{row_value}

-- the number of a payload that goes to place i, its first number going to place lo
abbrev pub value_from : List ℕ → ℕ → ℕ → ℕ
value_from p lo = λ i. row_value p (i - lo)

-- the rows of a load, from its payload: the first number goes to column 0 of the first row
unfoldable pub loaded : Width → List ℕ → Span → List ℕ → List ℕ
loaded w p rows l = over_rows_at w rows (value_from p (row_start rows.first)) l
