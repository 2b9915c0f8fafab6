-- Document 01, "Clear", as document 02's order 6 has changed it: what an instruction leaves of a Src file's banks, their marks and their numbers, spelled
-- out by opcodes and bits apart from what an instruction means; and what a kept bank meets along a job. One statement for the two files. Definitions only.
use Rattle.std.specs.Prelude.{◌≡◌, Bool, true, false, ◌&&◌, List, [], ◌∷◌, ◌≢◌, ℕ, suc, ◌+◌, ◌*◌, ◌/◌, ◌%◌, ◌^◌, ◌≤◌, ◌<◌, eqb, get_or, Result, Ok, Some}
use Rattle.cells.specs.declared.layout.File.{File}
use Rattle.cells.specs.declared.layout.File.TheVariants.{A, B}
use Rattle.cells.specs.declared.layout.Span.{Span}
use Rattle.cells.specs.State.{State, src_file}
use Rattle.cells.specs.Tests.{one_of}
use Rattle.word.specs.Operands.{opcode_of}
use Rattle.word.specs.declared.Refusal.TheVariants.{BankOwner}
use Rattle.control.specs.declared.Banks.{Banks}
use Rattle.control.specs.declared.Settings.{Settings}
use Rattle.control.specs.declared.Control.{Control}
use Rattle.control.specs.Record.{owned_at}
use Rattle.step.specs.Step.{verdict_of, stepped_of, state_of}
use Rattle.job.specs.declared.Cause.{Cause}
use Rattle.job.specs.declared.Write.TheVariants.{LoadSrc}
use Rattle.job.specs.declared.Kind.{Kind}
use Rattle.job.specs.declared.Kind.TheVariants as kind
use Rattle.walk.specs.FieldRecord.{banks_of}
use Rattle.precheck.specs.Marks.{Marks, src_marks}
use Rattle.precheck.specs.Judging.{field_rules}
use Rattle.precheck.specs.Marking.{field_marks}
use Rattle.demand.specs.WellShaped.{WellShaped}
use Rattle.demand.specs.Breaks.{broken_rule}
use Rattle.demand.specs.Meetings.{Meeting}
use Rattle.demand.specs.Demand.{meeting}

-- the file's switch
abbrev pub keeps : File → Settings → Bool
keeps A s = s.keep.a
keeps B s = s.keep.b

-- flags bits 3 (A) and 4 (B); the flags are the job's byte 4, as the settings' payload begins at byte 3
abbrev pub switch_bit : File → ℕ
switch_bit A = 3
switch_bit B = 4

abbrev pub switched_on : File → List ℕ → Bool
switched_on f job = eqb (get_or job 4 0 / 2 ^ switch_bit f % 2) 1

-- ---- a clear

-- the three multiplies, the legacy six and SETRWC have the field clear
abbrev pub clearing : List ℕ
clearing = 0x26 ∷ 0x29 ∷ 0x34 ∷ 0x22 ∷ 0x23 ∷ 0x24 ∷ 0x25 ∷ 0x31 ∷ 0x32 ∷ 0x37 ∷ []

-- 23:22 clear: bit 0 of the field for A, bit 1 for B
abbrev pub clear_bit : File → ℕ
clear_bit A = 22
clear_bit B = 23

abbrev pub clears : File → ℕ → Bool
clears f w = one_of (opcode_of w) clearing && eqb (w / 2 ^ clear_bit f % 2) 1

-- the matrix unit's pointer, the unpackers' pointer, whether the matrix unit owns bank 0 and bank 1
abbrev pub banks : ℕ → ℕ → Bool → Bool → Banks
banks m u o p = record { matrix = m; unpack = u; owned0 = o; owned1 = p }

-- the file's banks, and its marks, after thread t's word
abbrev pub banks_left : File → Control → ℕ → ℕ → State → Banks
banks_left f c t w s = banks_of (stepped_of c t w s).control f

abbrev pub marks_left : File → Control → Marks → ℕ → ℕ → List Bool
marks_left f c m t w = src_marks (field_marks c m (Ok (kind.Issue t w))) f

-- a single step that clears file f, done, over any record, thread, word, state and marks
pub record Clearing (f : File) (c : Control) (t w : ℕ) (s : State) (m : Marks) : Type 0 where
  -- with the switch on the matrix pointer moves to the other bank, and each bank keeps its owner, whoever this is
  pub kept_0 : keeps f c.settings ≡ true → (u : ℕ) (o p : Bool) → banks_of c f ≡ banks 0 u o p → banks_left f c t w s ≡ banks 1 u o p
  pub kept_1 : keeps f c.settings ≡ true → (u : ℕ) (o p : Bool) → banks_of c f ≡ banks 1 u o p → banks_left f c t w s ≡ banks 0 u o p
  -- with it off the bank that the pointer leaves becomes the unpackers'
  pub given_0 : keeps f c.settings ≡ false → (u : ℕ) (o p : Bool) → banks_of c f ≡ banks 0 u o p → banks_left f c t w s ≡ banks 1 u false p
  pub given_1 : keeps f c.settings ≡ false → (u : ℕ) (o p : Bool) → banks_of c f ≡ banks 1 u o p → banks_left f c t w s ≡ banks 0 u o false
  -- with the switch on every mark of the file stays as it is; with it off the 64 of that bank are unset
  pub marks_kept : keeps f c.settings ≡ true → marks_left f c m t w ≡ src_marks m f
  pub marks_given : keeps f c.settings ≡ false → (r : ℕ) → r < 64 → get_or (marks_left f c m t w) ((banks_of c f).matrix * 64 + r) false ≡ false
  -- and those of the other bank stay
  pub marks_other : (p r : ℕ) → p ≢ (banks_of c f).matrix → r < 64 → get_or (marks_left f c m t w) (p * 64 + r) false ≡ get_or (src_marks m f) (p * 64 + r) false
  -- the file's numbers stay
  pub rows : src_file (state_of c t w s) f ≡ src_file s f

pub record ClearRule (f : File) (c : Control) (t w : ℕ) (s : State) (m : Marks) : Type 0 where
  pub cleared : clears f w ≡ true → verdict_of c t w s ≡ Ok tt → Clearing f c t w s m
  -- every other word leaves the file's banks; so does one that is refused, whatever it is (`StepDemand1.record_kept`)
  pub stays : clears f w ≡ false → banks_left f c t w s ≡ banks_of c f
  -- and one that is done unsets none of its rows
  pub set_stays : clears f w ≡ false → verdict_of c t w s ≡ Ok tt → (r : ℕ) → get_or (src_marks m f) r false ≡ true → get_or (marks_left f c m t w) r false ≡ true
  -- none changes the settings, so that the switches stay
  pub switches : (stepped_of c t w s).control.settings ≡ c.settings

-- ---- along a job

-- a load into a Src file, and its hand over
pub data Fills (f : File) (k : Result Kind Cause) : Type 0 where
  load : (rows : Span) → k ≡ Ok (kind.Writes (LoadSrc f rows)) → Fills f k
  hand_over : k ≡ Ok (kind.HandOver f) → Fills f k

-- in a run of the job over s, y is met after x, or is x itself, and x meets the switch on
pub record Later (job : List ℕ) (s : State) (f : File) (x y : Meeting) : Type 0 where
  pub one : ℕ
  pub other : ℕ
  pub order : one ≤ other
  pub first : meeting job s one ≡ Some x
  pub then : meeting job s other ≡ Some y
  pub keeping : keeps f x.control.settings ≡ true

pub record KeptAlong (job : List ℕ) (s : State) (f : File) : Type 0 where
  -- in a job of right shape, every field after the settings meets the switch as the flags have it
  pub switch : WellShaped job → (k : ℕ) (x : Meeting) → meeting job s (suc k) ≡ Some x → keeps f x.control.settings ≡ switched_on f job
  -- a bank that is the matrix unit's stays the matrix unit's, and a row of the file that is set stays set
  pub owned : WellShaped job → (x y : Meeting) → Later job s f x y → (p : ℕ) → owned_at (banks_of x.control f) p ≡ true → owned_at (banks_of y.control f) p ≡ true
  pub set : WellShaped job → (x y : Meeting) → Later job s f x y → (r : ℕ) → get_or (src_marks x.marks f) r false ≡ true → get_or (src_marks y.marks f) r false ≡ true
  -- so a load or a hand over that finds such a bank at the unpackers' pointer breaks 6
  pub six : WellShaped job → (x y : Meeting) → Later job s f x y → Fills f y.field.kind
      → owned_at (banks_of x.control f) (banks_of y.control f).unpack ≡ true → broken_rule BankOwner (field_rules y.control y.marks y.field.kind) ≡ true
