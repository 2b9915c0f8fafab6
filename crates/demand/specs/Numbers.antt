-- Document 02, order 8: number 10 is out of the table. Its numbers are 1 to 9, and no public function that answers a refusal gives 10, for any input; said
-- of each answer in the paper's numbers, and of each text that is printed. (The C functions: `capi specs/Numbers.antt`.) Definitions only.
use Rattle.std.specs.Prelude.{true, ◌≡◌, List, [], ◌∷◌, map, ◌≢◌, ℕ, get_or, Option, Result}
use Rattle.cells.specs.Tests.{one_of}
use Rattle.cells.specs.State.{State}
use Rattle.word.specs.Fields.{refused_by, word_answer}
use Rattle.word.specs.Refusal.{number_of, table_numbers, Answer, refused}
use Rattle.word.specs.declared.Refusal.{Refusal}
use Rattle.word.specs.declared.Refusal.TheVariants.{StateLength, Shape, UnknownOpcode, UnnamedBit, UndefinedMode, UnmodelledSettings, BankOwner, DstRow, UnsetRead}
use Rattle.control.specs.declared.Control.{Control}
use Rattle.rules.specs.Rules.{Judged, lowest_answer, unread_answer}
use Rattle.step.specs.Step.{step_answer}
use Rattle.job.specs.Answers.{answers, field_answer, shape_answer}
use Rattle.precheck.specs.Check.{precheck_answer}
use Rattle.run.specs.Run.{run_answer}
use Rattle.lines.specs.Text.{refused_text}
use Rattle.lines.specs.Printed.{printed_text, checked_text}
use Rattle.lines.specs.Cursor.{printed_from}
use Rattle.lines.specs.declared.Cursor.{Cursor}
use Rattle.word.specs.declared.Refused.{Refused}
use Rattle.word.specs.declared.Operands.{Operands}

-- no refusal with 10, at whatever place and with whatever bit
abbrev pub NotTen : Answer → Type 0
NotTen x = (place : ℕ) (bit : Option ℕ) → x ≢ refused 10 place bit

-- nor its line
abbrev pub NotTenText : List ℕ → Type 0
NotTenText x = (place : ℕ) (bit : Option ℕ) → x ≢ refused_text 10 place bit

pub record NoTen : Type 0 where
  -- the other numbers keep their values
  pub values : (i : ℕ)
      → map number_of (Shape ∷ UnknownOpcode ∷ UnnamedBit i ∷ UndefinedMode ∷ UnmodelledSettings ∷ BankOwner ∷ DstRow ∷ UnsetRead ∷ StateLength ∷ []) ≡ table_numbers
  -- a refusal, whoever gives it, has a number of the table, and not 10: `Refusal::number`
  pub tabled : (r : Refusal) → one_of (number_of r) table_numbers ≡ true
  pub refusal : (r : Refusal) → number_of r ≢ 10
  -- `word::read_word`
  pub word : (w : ℕ) (bit : Option ℕ) → word_answer w ≢ refused_by 10 bit
  -- the judges of `rules`, whatever rules they judge; a word that is not read
  pub judges : (l : List Judged) → NotTen (lowest_answer l)
  pub unread : (r : Result Operands Refusal) → NotTen (unread_answer r)
  -- `step::step`
  pub step : (c : Control) (t w : ℕ) (s : State) → NotTen (step_answer c t w s)
  -- `job::field_at`, `job::find_shape`
  pub field : (job : List ℕ) (at place : ℕ) (bit : Option ℕ) → field_answer job at ≢ answers (refused 10 place bit)
  pub shape : (job : List ℕ) → NotTen (shape_answer job)
  -- `precheck::precheck`, `run::run`
  pub precheck : (job : List ℕ) → NotTen (precheck_answer job)
  pub run : (job : List ℕ) (s : State) → NotTen (run_answer job s)
  -- `lines::next_text`, whatever the outcome and the cursor: text k of what is left to print there; `lines::checked_text`
  pub texts : (job : List ℕ) (o : Result ℕ Refused) (c : Cursor) (s : State) (k : ℕ) → NotTenText (get_or (map printed_text (printed_from job o c s)) k [])
  pub checked : (x : Result ℕ Refused) → NotTenText (checked_text x)
