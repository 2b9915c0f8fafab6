-- Document 01, "Numbers to check against": what a run prints, one text at a time: the answer, then the lines in file order. A cursor says whether the
-- answer was read; then a field's place, and how many of the lines from there on were read. Definitions only.
use Rattle.job.specs.declared.Cause.{Cause}
use Rattle.std.specs.declared.option.Option.{Option}
use Rattle.std.specs.Prelude.{◌≡◌, None, Some, true, false, cond, List, [], ◌∷◌, map, ℕ, zero, suc, ◌+◌, ◌-◌, ltb, drop, Result, Ok, Err, Option}
use Rattle.job.specs.Fields.{fields_from}
use Rattle.job.specs.declared.Output.{Output}
use Rattle.job.specs.declared.Output.TheVariants.{Rows, Register}
use Rattle.job.specs.declared.Kind.{Kind}
use Rattle.job.specs.declared.Kind.TheVariants as kind
use Rattle.job.specs.declared.Field.{Field}
use Rattle.cells.specs.State.{State}
use Rattle.word.specs.Refusal.{number_of, bit_of}
use Rattle.lines.specs.Lines.{Line, lines_from}
use Rattle.lines.specs.Text.{made, Holds, line_of}
use Rattle.lines.specs.Printed.{Printed, finished, refused, line, printed_by, printed_text}
use Rattle.lines.specs.declared.Text.{Text}
use Rattle.lines.specs.declared.Next.{Next}
use Rattle.lines.specs.declared.Cursor.{Cursor}
use Rattle.lines.specs.declared.found.What.{What}
use Rattle.lines.specs.declared.found.What.TheVariants as what
use Rattle.lines.specs.declared.found.Found.{Found}
use Rattle.word.specs.declared.Refused.{Refused}

abbrev pub start_cursor : Cursor
start_cursor = record { answered = false; at = 0; line = 0 }

-- before the first line, and after i lines of the field at a place
abbrev pub answered_cursor : Cursor
answered_cursor = record { answered = true; at = 0; line = 0 }

abbrev pub line_cursor : ℕ → ℕ → Cursor
line_cursor place i = record { answered = true; at = place; line = i }

-- ---- which line

-- the lines from a cursor on
unfoldable pub lines_at : List ℕ → Cursor → State → List Line
lines_at job c s = drop c.line (lines_from (fields_from job c.at) s)

-- how many lines an output prints, and what its i-th line shows
abbrev pub line_count : Output → ℕ
line_count (Rows w rows) = rows.count
line_count (Register t r) = 1

abbrev pub what_at : Output → ℕ → What
what_at (Rows w rows) i = what.Row w (rows.first + i)
what_at (Register t r) i = what.Register t r

-- the output that a field is, if it is one
abbrev pub output_of : Result Kind Cause → Option Output
output_of (Ok kind.Settings) = None
output_of (Ok (kind.Issue t w)) = None
output_of (Ok (kind.HandOver file)) = None
output_of (Ok (kind.Writes x)) = None
output_of (Ok (kind.Prints o)) = Some o
output_of (Err x) = None

-- The next line of a field at a place, and the cursor after it; i lines from there on were read. A field that has none left leaves it to the rest.
unfoldable pub next_in : Result Kind Cause → ℕ → ℕ → (ℕ → Option Found) → Option Found
next_in (Ok kind.Settings) place i rest = rest i
next_in (Ok (kind.Issue t w)) place i rest = rest i
next_in (Ok (kind.HandOver file)) place i rest = rest i
next_in (Ok (kind.Writes x)) place i rest = rest i
next_in (Ok (kind.Prints o)) place i rest =
    cond (ltb i (line_count o)) (Some (record { what = what_at o i; after = line_cursor place (i + 1) })) (rest (i - line_count o))
next_in (Err x) place i rest = rest i

-- the next line of a list of fields
unfoldable pub next_from : List Field → ℕ → Option Found
next_from [] i = None
next_from (f ∷ fs) i = next_in f.kind f.place i (λ n. next_from fs n)

unfoldable pub next_line : List ℕ → Cursor → Option Found
next_line job c = next_from (fields_from job c.at) c.line

-- ---- which text

-- what is printed next as a text, and the cursor after it
abbrev pub give : Printed → Cursor → Next
give p after = record { text = made (printed_text p); after = after }

unfoldable pub line_next : Option Found → List ℕ → List ℕ → Option Next
line_next None dst registers = None
line_next (Some f) dst registers = Some (give (line (line_of f.what dst registers)) f.after)

-- the answer first; then the lines of a finished job
unfoldable pub next_of : List ℕ → Result ℕ Refused → Cursor → List ℕ → List ℕ → Option Next
next_of job (Ok n) c dst registers = cond c.answered (line_next (next_line job c) dst registers) (Some (give (finished n) answered_cursor))
next_of job (Err x) c dst registers = cond c.answered None (Some (give (refused (number_of x.refusal) x.place (bit_of x.refusal)) answered_cursor))

-- ---- that these are all, each once, in order

-- what is printed from a cursor on
unfoldable pub printed_from : List ℕ → Result ℕ Refused → Cursor → State → List Printed
printed_from job (Ok n) c s = cond c.answered (map line (lines_at job c s)) (printed_by job (Ok n) s)
printed_from job (Err x) c s = cond c.answered [] (printed_by job (Err x) s)

-- a text is the first of what is printed from a cursor on, and the cursor after it stands before all the rest
pub record First (job : List ℕ) (o : Result ℕ Refused) (s : State) (c : Cursor) (text : Text) (after : Cursor) : Type 0 where
  pub printed : Printed
  pub holds : Holds text (printed_text printed)
  pub rest : printed_from job o c s ≡ printed ∷ printed_from job o after s

-- what the next text gives: that, or nothing is left
abbrev pub Gives : List ℕ → Result ℕ Refused → State → Cursor → Option Next → Type 0
Gives job o s c None = printed_from job o c s ≡ []
Gives job o s c (Some x) = First job o s c x.text x.after

-- a text, and those that come after it
unfoldable pub text_then : Option Next → (Cursor → List Text) → List Text
text_then None rest = []
text_then (Some x) rest = x.text ∷ rest x.after

-- what a program's loop writes, in at most n turns
unfoldable pub loop_texts : ℕ → List ℕ → Result ℕ Refused → Cursor → State → List Text
loop_texts zero job o c s = []
loop_texts (suc n) job o c s = text_then (next_of job o c s.dst s.registers) (λ d. loop_texts n job o d s)
