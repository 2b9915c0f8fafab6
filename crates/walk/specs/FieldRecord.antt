-- Document 01, "The job": the control record after a field, the rows that a Src load writes, and how many instructions a field issues.
-- Definitions only.
use Rattle.std.specs.Prelude.{List, ℕ, Result, Ok, Err}
use Rattle.cells.specs.declared.layout.File.{File}
use Rattle.cells.specs.declared.layout.File.TheVariants.{A, B}
use Rattle.cells.specs.declared.layout.Span.{Span}
use Rattle.cells.specs.Layout.{bank_row, span}
use Rattle.control.specs.declared.Banks.{Banks}
use Rattle.control.specs.declared.Control.{Control}
use Rattle.control.specs.Record.{with_banks}
use Rattle.control.specs.Change.{hand_over}
use Rattle.rules.specs.After.{control_after}
use Rattle.job.specs.declared.Cause.{Cause}
use Rattle.job.specs.Fields.{settled_at}
use Rattle.job.specs.declared.Kind.{Kind}
use Rattle.job.specs.declared.Kind.TheVariants.{Settings, Issue, HandOver, Writes, Prints}

abbrev pub banks_of : Control → File → Banks
banks_of c A = c.a
banks_of c B = c.b

abbrev pub with_file : Control → File → Banks → Control
with_file c A b = with_banks c b c.b
with_file c B b = with_banks c c.a b

-- Src loads go into the unpackers' bank: the rows of the file that a load writes
abbrev pub loaded_rows : Control → File → Span → Span
loaded_rows c f rows = span (bank_row (banks_of c f).unpack rows.first) rows.count

-- a hand over: the file's bank at the unpackers' pointer goes to the matrix unit
abbrev pub handed_over : Control → File → Control
handed_over c file = with_file c file (hand_over (banks_of c file))

-- the record after the field at a place of the job; the settings are read from the job's bytes
unfoldable pub field_control : List ℕ → Control → ℕ → Result Kind Cause → Control
field_control job c place (Ok Settings) = settled_at job c place
field_control job c place (Ok (Issue t w)) = control_after c t w
field_control job c place (Ok (HandOver file)) = handed_over c file
field_control job c place (Ok (Writes x)) = c
field_control job c place (Ok (Prints o)) = c
field_control job c place (Err x) = c

-- 1 for an issue field
abbrev pub issue_of : Result Kind Cause → ℕ
issue_of (Ok Settings) = 0
issue_of (Ok (Issue t w)) = 1
issue_of (Ok (HandOver file)) = 0
issue_of (Ok (Writes x)) = 0
issue_of (Ok (Prints o)) = 0
issue_of (Err x) = 0
