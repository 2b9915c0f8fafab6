-- Document 01, "The job" and "Numbers given back": what reading a job gives back, in the paper's numbers. A field is its tag and the numbers that it
-- carries, in the order of the table of tags; settings and loaded values stay in the payload. A wrong field, and a wrong shape, is refused with 1 at
-- its place. Definitions only.
use Rattle.std.specs.Prelude.{cond, List, [], ◌∷◌, ℕ, eqb, get_or, ⊤, Result, Ok, Err}
use Rattle.cells.specs.declared.layout.File.{File}
use Rattle.cells.specs.declared.layout.File.TheVariants.{A, B}
use Rattle.cells.specs.declared.layout.Span.{Span}
use Rattle.cells.specs.declared.Width.{Width}
use Rattle.cells.specs.Places.{row_count, limit_of}
use Rattle.word.specs.Refusal.{Answer, done, answer_of}
use Rattle.word.specs.declared.Refusal.TheVariants as refusal
use Rattle.job.specs.Bytes.{le2, le4}
use Rattle.job.specs.Kinds.{load_span}
use Rattle.job.specs.Fields.{payload_at, job_width, field_at}
use Rattle.job.specs.Shape.{shape_of}
use Rattle.job.specs.declared.Cause.{Cause}
use Rattle.job.specs.declared.Write.{Write}
use Rattle.job.specs.declared.Write.TheVariants.{LoadSrc, LoadDst, LoadRegister, ZeroRows}
use Rattle.job.specs.declared.Output.{Output}
use Rattle.job.specs.declared.Output.TheVariants.{Rows, Register}
use Rattle.job.specs.declared.Kind.{Kind}
use Rattle.job.specs.declared.Kind.TheVariants as kind
use Rattle.job.specs.declared.Field.{Field}
use Rattle.job.specs.declared.WrongAt.{WrongAt}

-- ---- the width of Dst's rows: how many there are, and below what their numbers are

abbrev pub width_numbers : Width → List ℕ
width_numbers w = row_count w ∷ limit_of w ∷ []

abbrev pub width_answer : List ℕ → List ℕ
width_answer job = width_numbers (job_width job)

-- ---- a field

-- a tag with its numbers, or a refusal
pub data FieldAnswer : Type 0 where
  carries : ℕ → List ℕ → FieldAnswer
  answers : Answer → FieldAnswer

-- the number of a Src file; Dst is 2
abbrev pub file_number : File → ℕ
file_number A = 0
file_number B = 1

-- first row and count
abbrev pub row_numbers : Span → List ℕ
row_numbers rows = rows.first ∷ rows.count ∷ []

abbrev pub write_numbers : Write → FieldAnswer
write_numbers (LoadSrc file rows) = carries 2 (file_number file ∷ row_numbers rows)
write_numbers (LoadDst w rows) = carries 2 (2 ∷ row_numbers rows)
write_numbers (LoadRegister t r) = carries 3 (t ∷ r ∷ [])
write_numbers (ZeroRows w rows) = carries 8 (row_numbers rows)

abbrev pub output_numbers : Output → FieldAnswer
output_numbers (Rows w rows) = carries 6 (row_numbers rows)
output_numbers (Register t r) = carries 7 (t ∷ r ∷ [])

-- of a field at this place
abbrev pub kind_numbers : ℕ → Result Kind Cause → FieldAnswer
kind_numbers place (Ok kind.Settings) = carries 1 []
kind_numbers place (Ok (kind.Issue t w)) = carries 5 (t ∷ w ∷ [])
kind_numbers place (Ok (kind.HandOver file)) = carries 4 (file_number file ∷ [])
kind_numbers place (Ok (kind.Writes x)) = write_numbers x
kind_numbers place (Ok (kind.Prints o)) = output_numbers o
kind_numbers place (Err c) = answers (answer_of refusal.Shape place)

abbrev pub field_numbers : Field → FieldAnswer
field_numbers f = kind_numbers f.place f.kind

-- the numbers that stand in a payload with this tag, in the table's order; a load's count of rows follows from its length
abbrev pub payload_numbers : ℕ → List ℕ → List ℕ
payload_numbers tag p =
    cond (eqb tag 2) (get_or p 0 0 ∷ row_numbers (load_span p))
    (cond (eqb tag 3) (get_or p 0 0 ∷ get_or p 1 0 ∷ [])
    (cond (eqb tag 4) (get_or p 0 0 ∷ [])
    (cond (eqb tag 5) (get_or p 0 0 ∷ le4 p 1 ∷ [])
    (cond (eqb tag 6) (le2 p 0 ∷ get_or p 2 0 ∷ [])
    (cond (eqb tag 7) (get_or p 0 0 ∷ get_or p 1 0 ∷ [])
    (cond (eqb tag 8) (le2 p 0 ∷ le2 p 2 ∷ [])
    []))))))

-- what stands at a place: a wrong field is refused with 1 there, any other has its tag and the numbers of its payload
abbrev pub standing : Result Kind Cause → ℕ → ℕ → List ℕ → FieldAnswer
standing (Ok kind.Settings) place tag p = carries tag (payload_numbers tag p)
standing (Ok (kind.Issue t w)) place tag p = carries tag (payload_numbers tag p)
standing (Ok (kind.HandOver file)) place tag p = carries tag (payload_numbers tag p)
standing (Ok (kind.Writes x)) place tag p = carries tag (payload_numbers tag p)
standing (Ok (kind.Prints o)) place tag p = carries tag (payload_numbers tag p)
standing (Err c) place tag p = answers (answer_of refusal.Shape place)

-- the field whose tag stands at `at`, by the job's bytes
abbrev pub field_answer : List ℕ → ℕ → FieldAnswer
field_answer job at = standing (field_at job at).kind at (get_or job at 0) (payload_at job at)

-- ---- the shape

abbrev pub shape_numbers : Result ⊤ WrongAt → Answer
shape_numbers (Ok x) = done
shape_numbers (Err wrong) = answer_of refusal.Shape wrong.0

abbrev pub shape_answer : List ℕ → Answer
shape_answer job = shape_numbers (shape_of job)
