-- Demand 3 in one piece, for every list of bytes, with no hypothesis on the job; demand 1 for the pre-check, the job run and the single step;
-- which numbers the two Dst modes leave; and which instructions set the last SrcA row. A refusal 3 is number, place and bit. Definitions only.
use Rattle.std.specs.Prelude.{◌≡◌, true, false, List, [], ◌∷◌, map, ◌⊎◌, ◌≢◌, ℕ, suc, ◌+◌, ◌%◌, ◌^◌, ◌≤◌, ◌<◌, ltb, length, get_or, Option, None, Some, Ok, Err}
use Rattle.std.specs.Int.Bits.{bit_and}
use Rattle.cells.specs.declared.Width.TheVariants.{Bits16}
use Rattle.word.specs.Refusal.{done, refused, number_of, bit_of, rank_of}
use Rattle.word.specs.Operands.{opcode_of}
use Rattle.word.specs.Word.{word_operands}
use Rattle.word.specs.declared.MultiplyWord.{MultiplyWord}
use Rattle.word.specs.declared.Operands.TheVariants as operands
use Rattle.word.specs.declared.Refusal.{Refusal}
use Rattle.word.specs.declared.Refusal.TheVariants.{Shape, StateLength, UnnamedBit, UnmodelledSettings, DstRow}
use Rattle.control.specs.declared.Control.{Control}
use Rattle.control.specs.declared.Settings.{Settings}
use Rattle.control.specs.Record.{start, thread_at, width_of}
use Rattle.rules.specs.Rules.{rules}
use Rattle.cells.specs.State.{State}
use Rattle.cells.specs.Tests.{one_of}
use Rattle.step.specs.Step.{verdict_of, stepped_of, state_of, step_answer}
use Rattle.job.specs.Bytes.{le4}
use Rattle.job.specs.Fields.{payload_at, job_width, fields_from}
use Rattle.job.specs.declared.Field.{Field}
use Rattle.job.specs.Settings.{settled}
use Rattle.job.specs.Values.{OtherValues}
use Rattle.precheck.specs.Marks.{unset}
use Rattle.precheck.specs.Check.{precheck_of}
use Rattle.run.specs.Run.{ran, run_of}
use Rattle.lines.specs.Text.{bytes_in, refused_text}
use Rattle.lines.specs.Cursor.{start_cursor, loop_texts}
use Rattle.lines.specs.Printed.{printed_of, texts_of}
use Rattle.demand.specs.WellShaped.{WellShaped, fields_of, tagged, FirstWrong}
use Rattle.demand.specs.RecordRange.{RecordIn}
use Rattle.demand.specs.Offending.{LowestOffending, BitTold}
use Rattle.demand.specs.Meetings.{Meeting, meeting_at, Goes, leaves, StepsOn, steps_done}
use Rattle.demand.specs.Breaks.{broken_rule, breaks, FirstBroken, issue_fields}
use Rattle.word.specs.Refusal.{refused_at}

-- ---- the numbers of the table

-- those that a field can break, in the order in which they are judged; that a pre-check gives; that a run gives; that a single step gives
abbrev pub field_numbers : List ℕ
field_numbers = 2 ∷ 3 ∷ 4 ∷ 5 ∷ 6 ∷ 7 ∷ 8 ∷ []

abbrev pub job_numbers : List ℕ
job_numbers = 1 ∷ field_numbers

abbrev pub run_numbers : List ℕ
run_numbers = 9 ∷ job_numbers

abbrev pub step_numbers : List ℕ
step_numbers = 9 ∷ 1 ∷ 2 ∷ 3 ∷ 4 ∷ 5 ∷ 6 ∷ 7 ∷ []

-- what is judged first has the lowest number: 2 to 8 are their own ranks
pub record Ranks (r : Refusal) : Type 0 where
  pub rank : one_of (number_of r) field_numbers ≡ true → rank_of r ≡ number_of r

-- ---- the lent state has the right sizes

pub record Lengths (s : State) : Type 0 where
  pub srca : length s.srca ≡ 2048
  pub srcb : length s.srcb ≡ 2048
  pub dst : length s.dst ≡ 8192
  pub registers : length s.registers ≡ 192

-- ---- demand 3

-- no field of the job breaks a rule; at the start each row that its Dst has is unset
abbrev pub Unbroken : List ℕ → Type 0
Unbroken job = (k : ℕ) (r : Refusal) → breaks job start (unset (job_width job)) (fields_from job 0) k r ≡ false

-- what field k of the job meets in a run over s
abbrev pub meeting : List ℕ → State → ℕ → Option Meeting
meeting job s k = meeting_at job (fields_from job 0) start (unset (job_width job)) s k

-- why a job is turned down: with 1 at the first wrong place of its shape; or, that being right, by its first field that breaks a rule, with the
-- lowest number that it breaks
pub data Named (job : List ℕ) (r : Refusal) (p : ℕ) : Type 0 where
  shape : r ≡ Shape → FirstWrong job p → Named job r p
  rule : WellShaped job → FirstBroken job start (unset (job_width job)) (fields_from job 0) r p → Named job r p

-- the word in the issue field at a place: after tag, two bytes of length and thread
abbrev pub word_in : List ℕ → ℕ → ℕ
word_in job p = le4 job (p + 4)

pub record Demand3 (job : List ℕ) : Type 0 where
  -- a job passes exactly when its shape is right and no field breaks a rule
  pub right : (n : ℕ) → precheck_of job ≡ Ok n → WellShaped job
  pub unbroken : (n : ℕ) → precheck_of job ≡ Ok n → Unbroken job
  pub passes : WellShaped job → Unbroken job → precheck_of job ≡ Ok (issue_fields (fields_from job 0))
  -- a job that passes, over any state of the right sizes, finishes with its number of issue fields: it is never refused
  pub finishes : (n : ℕ) → precheck_of job ≡ Ok n → (s : State) → Lengths s
      → (run_of job s).outcome ≡ Ok (issue_fields (fields_from job 0))
  -- these are the fields with tag 5
  pub issues : (w : WellShaped job) → issue_fields (fields_from job 0) ≡ tagged 5 (fields_of w)
  -- that many single steps are done along the run, each on the record and the lent numbers that the fields before it leave
  pub carried : (n : ℕ) → precheck_of job ≡ Ok n → (s : State) → Lengths s → steps_done job (fields_from job 0) start s ≡ issue_fields (fields_from job 0)
  -- each field of the job is met, whatever it does
  pub met : (s : State) (k : ℕ) → k < length (fields_from job 0)
      → (x : Meeting) × (meeting job s k ≡ Some x) × (x.field.place ≡ get_or (map (λ (f : Field). f.place) (fields_from job 0)) k 0)
  -- no field and no instruction is refused, from the first to the last, and what the last one leaves is what the run leaves
  pub goes : (n : ℕ) → precheck_of job ≡ Ok n → (s : State) → Lengths s → (k : ℕ) (x : Meeting) → meeting job s k ≡ Some x → Goes x
  pub ends : (n : ℕ) → precheck_of job ≡ Ok n → (s : State) → Lengths s
      → (k : ℕ) (x : Meeting) → meeting job s k ≡ Some x → meeting job s (suc k) ≡ None → (run_of job s).state ≡ leaves job x
  -- each instruction hands on what its single step gives back
  pub steps : (s : State) (k : ℕ) (x y : Meeting) → meeting job s k ≡ Some x → meeting job s (suc k) ≡ Some y → StepsOn x y
  -- over any two states of the right sizes it prints the same, in numbers and as texts
  pub prints : (n : ℕ) → precheck_of job ≡ Ok n → (s t : State) → Lengths s → Lengths t
      → printed_of job (run_of job s) ≡ printed_of job (run_of job t)
  pub texts : (n : ℕ) → precheck_of job ≡ Ok n → (s t : State) → Lengths s → Lengths t
      → texts_of job (run_of job s) ≡ texts_of job (run_of job t)
  -- a job turned down is named by its first wrong place with number 1, or by its first field that breaks a rule with its lowest number
  pub misshapen : (p : ℕ) → FirstWrong job p → precheck_of job ≡ Err (refused_at Shape p)
  pub found : (r : Refusal) (p : ℕ) → precheck_of job ≡ Err (refused_at r p) → Named job r p
  -- with one of the numbers 1 to 8
  pub named : (r : Refusal) (p : ℕ) → precheck_of job ≡ Err (refused_at r p) → one_of (number_of r) job_numbers ≡ true
  -- number 3 is given at an issue field and has exactly the lowest offending bit of its word; no other number has a bit
  pub at_issue : (r : Refusal) (p : ℕ) → precheck_of job ≡ Err (refused_at r p) → number_of r ≡ 3 → get_or job p 0 ≡ 5
  pub bit : (r : Refusal) (p : ℕ) → precheck_of job ≡ Err (refused_at r p) → BitTold (word_in job p) r
  -- and a run over any state of the right sizes refuses it with the same number, place and bit, and leaves the state
  pub refuses : (r : Refusal) (p : ℕ) → precheck_of job ≡ Err (refused_at r p) → (s : State) → Lengths s → run_of job s ≡ ran (Err (refused_at r p)) s
  -- other permitted values in the load fields leave the answer as it is; where the shape is wrong, in those before its first wrong place
  pub values : WellShaped job → (other : List ℕ) → OtherValues (λ f. true) job other → precheck_of other ≡ precheck_of job
  pub values_before : (p : ℕ) → FirstWrong job p
      → (other : List ℕ) → OtherValues (λ f. ltb f.place p) job other → precheck_of other ≡ precheck_of job

-- ---- demand 1: a refusal is a number of the table, leaves every lent number as it stood, and prints no row

-- the job run, over any state: 9 at place 0 first of all
pub record Demand1 (job : List ℕ) (s : State) : Type 0 where
  pub unsized : (Lengths s → ⊥) → run_of job s ≡ ran (Err (refused_at StateLength 0)) s
  pub kept : (r : Refusal) (p : ℕ) → (run_of job s).outcome ≡ Err (refused_at r p) → (run_of job s).state ≡ s
  pub tabled : (r : Refusal) (p : ℕ) → (run_of job s).outcome ≡ Err (refused_at r p) → one_of (number_of r) run_numbers ≡ true
  -- number 3 is given at an issue field and has exactly the lowest offending bit of its word; no other number has a bit
  pub at_issue : (r : Refusal) (p : ℕ) → (run_of job s).outcome ≡ Err (refused_at r p) → number_of r ≡ 3 → get_or job p 0 ≡ 5
  pub bit : (r : Refusal) (p : ℕ) → (run_of job s).outcome ≡ Err (refused_at r p) → BitTold (word_in job p) r
  -- all that a refused run prints is the refusal's line
  pub line : (r : Refusal) (p : ℕ) → (run_of job s).outcome ≡ Err (refused_at r p) → texts_of job (run_of job s) ≡ refused_text (number_of r) p (bit_of r) ∷ []
  -- a loop over the next text, in turns enough, writes all that the run prints, refused or finished: each text whole, once, in order
  pub written : (n : ℕ) → length (texts_of job (run_of job s)) ≤ n
      → map bytes_in (loop_texts n job (run_of job s).outcome start_cursor (run_of job s).state) ≡ texts_of job (run_of job s)

-- the single step, over any record, thread, word and state: 1 to 7 or 9, and the record as it came
pub record StepDemand1 (c : Control) (t w : ℕ) (s : State) : Type 0 where
  pub kept : (r : Refusal) → verdict_of c t w s ≡ Err r → state_of c t w s ≡ s
  pub record_kept : (r : Refusal) → verdict_of c t w s ≡ Err r → (stepped_of c t w s).control ≡ c
  pub tabled : (r : Refusal) → verdict_of c t w s ≡ Err r → one_of (number_of r) step_numbers ≡ true
  -- 3 has exactly the lowest offending bit of the word, and is given where there is one; no other number has a bit
  pub bit : (r : Refusal) → verdict_of c t w s ≡ Err r → BitTold w r
  pub three : Lengths s → RecordIn c → t < 3 → (b : ℕ) → LowestOffending w b → verdict_of c t w s ≡ Err (UnnamedBit b)
  -- in numbers, always at place 0
  pub answered : (r : Refusal) → verdict_of c t w s ≡ Err r → step_answer c t w s ≡ refused (number_of r) 0 (bit_of r)
  pub answered_done : verdict_of c t w s ≡ Ok tt → step_answer c t w s ≡ done
  -- 9 exactly when a length is wrong
  pub nine : (Lengths s → ⊥) → verdict_of c t w s ≡ Err StateLength
  pub not_nine : Lengths s → verdict_of c t w s ≢ Err StateLength
  -- else 1 exactly when the record or the thread is out of range
  pub one : Lengths s → (RecordIn c × (t < 3) → ⊥) → verdict_of c t w s ≡ Err Shape
  pub not_one : RecordIn c → t < 3 → verdict_of c t w s ≢ Err Shape
  -- else the first in rank of the rules 2 to 7 that are broken, which has the lowest number; and it is done exactly when none is broken
  pub broken : Lengths s → RecordIn c → t < 3 → (r : Refusal) → verdict_of c t w s ≡ Err r → broken_rule r (rules c t w) ≡ true
  pub lowest : Lengths s → RecordIn c → t < 3 → (r : Refusal) → verdict_of c t w s ≡ Err r
      → (q : Refusal) → rank_of q < rank_of r → broken_rule q (rules c t w) ≡ false
  pub unbroken : verdict_of c t w s ≡ Ok tt → (q : Refusal) → broken_rule q (rules c t w) ≡ false
  pub done : Lengths s → RecordIn c → t < 3 → ((q : Refusal) → broken_rule q (rules c t w) ≡ false) → verdict_of c t w s ≡ Ok tt

-- ---- the two Dst modes, spelled out apart from the definitions that the rules and the widths go by

-- the BF16 mode: rows of 16-bit numbers
pub record InBf16 (s : Settings) : Type 0 where
  pub fp32 : s.fp32 ≡ false
  pub int8 : s.int8 ≡ false
  pub fp16a : s.fp16a ≡ false
  pub format : s.format ≡ 2

-- the other mode that is modelled: rows of 32-bit numbers
pub record InFp32 (s : Settings) : Type 0 where
  pub fp32 : s.fp32 ≡ true
  pub int8 : s.int8 ≡ false
  pub fp16a : s.fp16a ≡ false
  pub format : (s.format ≡ 2) ⊎ (s.format ≡ 6)

-- a multiply under settings of neither
pub record Unmodelled (s : Settings) (w : ℕ) : Type 0 where
  pub multiply : MultiplyWord
  pub word : word_operands w ≡ operands.Multiply multiply
  pub not_fp32 : InFp32 s → ⊥
  pub not_bf16 : InBf16 s → ⊥

-- rows are of 16-bit numbers exactly in the BF16 mode
pub record SettingsModes (s : Settings) : Type 0 where
  pub halves : InBf16 s → width_of s ≡ Bits16
  pub bf16 : width_of s ≡ Bits16 → InBf16 s

-- a word, under any record and thread
pub record WordModes (c : Control) (t w : ℕ) : Type 0 where
  -- it breaks 5 exactly when neither mode is modelled
  pub unmodelled : broken_rule UnmodelledSettings (rules c t w) ≡ true → Unmodelled c.settings w
  pub five : Unmodelled c.settings w → broken_rule UnmodelledSettings (rules c t w) ≡ true
  -- 7 cannot occur in the BF16 mode: it is not broken, and no single step is refused with it
  pub not_seven : InBf16 c.settings → broken_rule DstRow (rules c t w) ≡ false
  pub step : InBf16 c.settings → (s : State) (r : Refusal) → verdict_of c t w s ≡ Err r → number_of r ≢ 7

pub record JobModes (job : List ℕ) : Type 0 where
  -- rows are of 16 bits exactly when the settings, whose payload begins at byte 3, have format 2 and of the flags neither Fp32, INT8 nor FP16A force, bits 0
  -- to 2
  pub halves : get_or job 3 0 ≡ 2 → get_or job 4 0 % 2 ^ 3 ≡ 0 → job_width job ≡ Bits16
  pub bytes : job_width job ≡ Bits16 → (get_or job 3 0 ≡ 2) × (get_or job 4 0 % 2 ^ 3 ≡ 0)
  -- in a job of right shape this is the width of the record that its settings make
  pub width : WellShaped job → job_width job ≡ width_of (settled start (payload_at job 0)).settings
  -- neither the pre-check nor a run over any state refuses a job in the BF16 mode with 7
  pub check : job_width job ≡ Bits16 → (r : Refusal) (p : ℕ) → precheck_of job ≡ Err (refused_at r p) → number_of r ≢ 7
  pub run : job_width job ≡ Bits16 → (s : State) (r : Refusal) (p : ℕ) → (run_of job s).outcome ≡ Err (refused_at r p) → number_of r ≢ 7

-- ---- the last SrcA row, spelled out by opcodes apart from what an instruction means

-- the three multiplies and the legacy six
abbrev pub row_leaving : List ℕ
row_leaving = 0x26 ∷ 0x29 ∷ 0x34 ∷ 0x22 ∷ 0x23 ∷ 0x24 ∷ 0x25 ∷ 0x31 ∷ 0x32 ∷ []

-- a single step, over any record, thread, word and state; one that is refused leaves the whole record (`StepDemand1.record_kept`)
pub record LastRow (c : Control) (t w : ℕ) (s : State) : Type 0 where
  -- these, done, leave SrcA counter & 0x30, the counter as the step was given it
  pub left : one_of (opcode_of w) row_leaving ≡ true → verdict_of c t w s ≡ Ok tt
      → (stepped_of c t w s).control.last ≡ bit_and (thread_at c t).a.at.0 0x30
  -- every other word leaves it as it was
  pub stays : one_of (opcode_of w) row_leaving ≡ false → (stepped_of c t w s).control.last ≡ c.last
