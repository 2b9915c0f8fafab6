-- Document 01, "Numbers to check against" and "Numbers given back": all that a run prints. A finished job prints its count and then its lines in order;
-- a refused one the refusal, and no row. Said in numbers first, then as texts. Definitions only.
use Rattle.std.specs.Prelude.{List, [], ◌∷◌, map, ℕ, Option, Result, Ok, Err}
use Rattle.cells.specs.State.{State}
use Rattle.word.specs.Refusal.{number_of, bit_of}
use Rattle.run.specs.Run.{Ran}
use Rattle.lines.specs.Lines.{Line, lines_of}
use Rattle.lines.specs.Text.{text_of, finished_text, refused_text, passed_text}
use Rattle.word.specs.declared.Refused.{Refused}

-- the count of a finished job, the number, the place and, if any, the bit of a refusal, or a line
pub data Printed : Type 0 where
  finished : ℕ → Printed
  refused : ℕ → ℕ → Option ℕ → Printed
  line : Line → Printed

-- by the outcome of a run and the state that it leaves
unfoldable pub printed_by : List ℕ → Result ℕ Refused → State → List Printed
printed_by job (Ok n) s = finished n ∷ map line (lines_of job s)
printed_by job (Err x) s = refused (number_of x.refusal) x.place (bit_of x.refusal) ∷ []

abbrev pub printed_of : List ℕ → Ran → List Printed
printed_of job r = printed_by job r.outcome r.state

-- as texts
unfoldable pub printed_text : Printed → List ℕ
printed_text (finished n) = finished_text n
printed_text (refused n place i) = refused_text n place i
printed_text (line l) = text_of l

abbrev pub texts_of : List ℕ → Ran → List (List ℕ)
texts_of job r = map printed_text (printed_of job r)

-- what a pre-check prints: one text
unfoldable pub checked_text : Result ℕ Refused → List ℕ
checked_text (Ok n) = passed_text n
checked_text (Err x) = refused_text (number_of x.refusal) x.place (bit_of x.refusal)
