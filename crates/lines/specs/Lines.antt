-- Document 01, "Numbers to check against": the printed lines: per output in file order, a row as D, its number and sixteen values, a register as G,
-- thread, register and value. The values are read from the final state. Definitions only.
use Rattle.job.specs.declared.Cause.{Cause}
use Rattle.std.specs.Prelude.{List, [], ◌∷◌, ◌++◌, ℕ, zero, suc, get_or, Result, Ok, Err}
use Rattle.cells.specs.declared.Width.{Width}
use Rattle.cells.specs.Layout.{column_count, register, cell}
use Rattle.cells.specs.Places.{get_at}
use Rattle.cells.specs.State.{State}
use Rattle.job.specs.Fields.{fields_from}
use Rattle.job.specs.declared.Output.{Output}
use Rattle.job.specs.declared.Output.TheVariants.{Rows, Register}
use Rattle.job.specs.declared.Kind.{Kind}
use Rattle.job.specs.declared.Kind.TheVariants as kind
use Rattle.job.specs.declared.Field.{Field}

-- a row of a width: its number and its values; a register: thread, register and value
pub data Line : Type 0 where
  row : Width → ℕ → List ℕ → Line
  value : ℕ → ℕ → ℕ → Line

-- the sixteen numbers of a row, from column k on
unfoldable pub columns : Width → List ℕ → ℕ → ℕ → ℕ → List ℕ
columns w l r k zero = []
columns w l r k (suc n) = get_at w l (cell r k) ∷ columns w l r (suc k) n

-- n rows from `first` on, a line each
unfoldable pub row_lines : Width → List ℕ → ℕ → ℕ → List Line
row_lines w l first zero = []
row_lines w l first (suc n) = row w first (columns w l first 0 column_count) ∷ row_lines w l (suc first) n

-- the lines of an output
unfoldable pub output_lines : Output → State → List Line
output_lines (Rows w rows) s = row_lines w s.dst rows.first rows.count
output_lines (Register t r) s = value t r (get_or s.registers (register t r) 0) ∷ []

-- the lines of a field: outputs alone have some
unfoldable pub field_lines : Result Kind Cause → State → List Line
field_lines (Ok kind.Settings) s = []
field_lines (Ok (kind.Issue t w)) s = []
field_lines (Ok (kind.HandOver file)) s = []
field_lines (Ok (kind.Writes x)) s = []
field_lines (Ok (kind.Prints o)) s = output_lines o s
field_lines (Err x) s = []

-- field by field, in file order
unfoldable pub lines_from : List Field → State → List Line
lines_from [] s = []
lines_from (f ∷ fs) s = field_lines f.kind s ++ lines_from fs s

-- the lines of a job over a state
unfoldable pub lines_of : List ℕ → State → List Line
lines_of job s = lines_from (fields_from job 0) s
