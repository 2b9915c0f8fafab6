-- Document 01, "The job": when a job is well-shaped, and which is its first wrong place, said of its bytes, apart from the reader of the fields and the
-- walk over them by which the pre-check finds it. Shared with these are how two and four bytes are a number, and the width of Dst's rows: w stands for
-- the width that the settings give (`JobModes`), of 512 rows or of 1,024. Definitions only.
use Rattle.std.specs.Prelude.{◌≡◌, cond, List, [], ◌∷◌, ◌++◌, ℕ, suc, ◌+◌, ◌*◌, ◌^◌, ◌≤◌, ◌<◌, eqb, length, get_or}
use Rattle.cells.specs.declared.Width.{Width}
use Rattle.cells.specs.declared.Width.TheVariants.{Bits16}
use Rattle.cells.specs.Places.{row_count}
use Rattle.job.specs.Bytes.{le2, le4}
use Rattle.job.specs.Fields.{job_width}

-- ---- a field is a one-byte tag, a two-byte length, low byte first, and a payload of that length

pub record FieldBytes : Type 0 where
  pub tag : ℕ
  pub low : ℕ
  pub high : ℕ
  pub payload : List ℕ
  pub long : length payload ≡ low + 256 * high

abbrev pub bytes_of : FieldBytes → List ℕ
bytes_of f = f.tag ∷ f.low ∷ f.high ∷ f.payload

-- one field after another
unfoldable pub joined : List FieldBytes → List ℕ
joined [] = []
joined (f ∷ fs) = bytes_of f ++ joined fs

-- ---- the table of tags: the length of each, and each number in its range

-- SrcA step 0..63, SrcB step 0..63, Dst step 0..1023, fidelity step 0..3, and flags, which are any
pub record SlotIn (p : List ℕ) (at : ℕ) : Type 0 where
  pub srca : get_or p at 0 ≤ 63
  pub srcb : get_or p (at + 1) 0 ≤ 63
  pub dst : le2 p (at + 2) ≤ 1023
  pub fidelity : get_or p (at + 4) 0 ≤ 3

-- math offset 0..1023, fidelity base 0..3, extra bit 0..1, eight slots of six bytes
pub record ThreadIn (p : List ℕ) (at : ℕ) : Type 0 where
  pub offset : le2 p at ≤ 1023
  pub fidelity : get_or p (at + 2) 0 ≤ 3
  pub extra : get_or p (at + 3) 0 ≤ 1
  pub slots : (s : ℕ) → s < 8 → SlotIn p (at + 4 + 6 * s)

-- 1 settings: SrcA format 0..13, five flags and the rest 0, DEST_REGW_BASE 0..1023, three threads of 52 bytes
pub record SettingsIn (p : List ℕ) : Type 0 where
  pub long : length p ≡ 160
  pub format : get_or p 0 0 ≤ 13
  pub flags : get_or p 1 0 < 2 ^ 5
  pub base : le2 p 2 ≤ 1023
  pub threads : (t : ℕ) → t < 3 → ThreadIn p (4 + 52 * t)

-- rows stay inside a file of m rows; at least one, at most n
pub record RowsInside (first count n m : ℕ) : Type 0 where
  pub some : 1 ≤ count
  pub most : count ≤ n
  pub inside : first + count ≤ m

-- the values of n rows are below a limit
abbrev pub ValuesIn : List ℕ → ℕ → ℕ → Type 0
ValuesIn p n limit = (i : ℕ) → i < 16 * n → le4 p (3 + 4 * i) < limit

-- file 0 SrcA or 1 SrcB: rows inside a bank (docs/DECISIONS.md, 14), values below 2^19; file 2 Dst: values of 16 bits below 2^16, of 32 bits any
pub data FileIn (w : Width) (p : List ℕ) (n : ℕ) : Type 0 where
  src : get_or p 0 0 ≤ 1 → RowsInside (le2 p 1) n 64 64 → ValuesIn p n (2 ^ 19) → FileIn w p n
  dst : get_or p 0 0 ≡ 2 → RowsInside (le2 p 1) n 64 (row_count w) → (w ≡ Bits16 → ValuesIn p n (2 ^ 16)) → FileIn w p n

-- 2 load rows: file, first row, n rows
pub record LoadRowsIn (w : Width) (p : List ℕ) : Type 0 where
  pub count : ℕ
  pub long : length p ≡ 3 + 64 * count
  pub file : FileIn w p count

-- thread 0..2 and register 0..63
pub record RegisterNamed (p : List ℕ) (n : ℕ) : Type 0 where
  pub long : length p ≡ n
  pub thread : get_or p 0 0 ≤ 2
  pub register : get_or p 1 0 ≤ 63

-- 4 hand over: file 0 or 1
pub record HandOverIn (p : List ℕ) : Type 0 where
  pub long : length p ≡ 1
  pub file : get_or p 0 0 ≤ 1

-- 5 issue: thread, word
pub record IssueIn (p : List ℕ) : Type 0 where
  pub long : length p ≡ 5
  pub thread : get_or p 0 0 ≤ 2

-- 6 output rows: first Dst row, count
pub record OutputRowsIn (w : Width) (p : List ℕ) : Type 0 where
  pub long : length p ≡ 3
  pub rows : RowsInside (le2 p 0) (get_or p 2 0) 64 (row_count w)

-- 8 zero Dst rows: first row, count
pub record ZeroRowsIn (w : Width) (p : List ℕ) : Type 0 where
  pub long : length p ≡ 4
  pub rows : RowsInside (le2 p 0) (le2 p 2) (row_count w) (row_count w)

-- the settings; an output; a field that is neither
pub record Settles (f : FieldBytes) : Type 0 where
  pub tag : f.tag ≡ 1
  pub right : SettingsIn f.payload

pub data Prints (w : Width) (f : FieldBytes) : Type 0 where
  rows : f.tag ≡ 6 → OutputRowsIn w f.payload → Prints w f
  register : f.tag ≡ 7 → RegisterNamed f.payload 2 → Prints w f

pub data Acts (w : Width) (f : FieldBytes) : Type 0 where
  load_rows : f.tag ≡ 2 → LoadRowsIn w f.payload → Acts w f
  load_register : f.tag ≡ 3 → RegisterNamed f.payload 6 → Acts w f
  hand_over : f.tag ≡ 4 → HandOverIn f.payload → Acts w f
  issue : f.tag ≡ 5 → IssueIn f.payload → Acts w f
  zero_rows : f.tag ≡ 8 → ZeroRowsIn w f.payload → Acts w f

-- ---- the shape is right

abbrev pub EachOf : (FieldBytes → Type 0) → List FieldBytes → Type 0
EachOf P [] = Unit {0}
EachOf P (f ∷ fs) = P f × EachOf P fs

-- at most 8,192 bytes, which are whole fields: the settings first and once, then fields that are neither settings nor output, then one or
-- more outputs
pub record WellShaped (job : List ℕ) : Type 0 where
  pub short : length job ≤ 8192
  pub settings : FieldBytes
  pub acting : List FieldBytes
  pub outputs : List FieldBytes
  pub whole : job ≡ joined (settings ∷ acting ++ outputs)
  pub settles : Settles settings
  pub acts : EachOf (Acts (job_width job)) acting
  pub prints : EachOf (Prints (job_width job)) outputs
  pub some : 1 ≤ length outputs

-- its fields, and how many fields of a list have a tag
abbrev pub fields_of : {job : List ℕ} → WellShaped job → List FieldBytes
fields_of w = w.settings ∷ w.acting ++ w.outputs

unfoldable pub tagged : ℕ → List FieldBytes → ℕ
tagged n [] = 0
tagged n (f ∷ fs) = cond (eqb f.tag n) (suc (tagged n fs)) (tagged n fs)

-- ---- or it has a first wrong place

-- a field is right and in place after those before it, which are themselves: the settings after none; every other field after some; and after an
-- output no field but another output
pub data InPlace (w : Width) (before : List FieldBytes) (f : FieldBytes) : Type 0 where
  first : before ≡ [] → Settles f → InPlace w before f
  acting : 1 ≤ length before → EachOf (λ g. Prints w g → ⊥) before → Acts w f → InPlace w before f
  printing : 1 ≤ length before → Prints w f → InPlace w before f

-- each field is, after those before it
abbrev pub AllInPlace : Width → List FieldBytes → List FieldBytes → Type 0
AllInPlace w before [] = Unit {0}
AllInPlace w before (f ∷ fs) = InPlace w before f × AllInPlace w (before ++ f ∷ []) fs

-- place 0 of a job over 8,192 bytes; the length of one whose fields are all right and none an output; or the place where fields that are all
-- right and in place end and none that is comes next
pub data FirstWrong (job : List ℕ) (place : ℕ) : Type 0 where
  over_long : 8192 < length job → place ≡ 0 → FirstWrong job place
  no_output : length job ≤ 8192 → (fs : List FieldBytes) → job ≡ joined fs → AllInPlace (job_width job) [] fs
      → EachOf (λ g. Prints (job_width job) g → ⊥) fs
      → place ≡ length job → FirstWrong job place
  wrong_field : length job ≤ 8192 → (before : List FieldBytes) (rest : List ℕ) → job ≡ joined before ++ rest → 1 ≤ length rest
      → AllInPlace (job_width job) [] before
      → ((f : FieldBytes) (more : List ℕ) → rest ≡ bytes_of f ++ more → InPlace (job_width job) before f → ⊥)
      → place ≡ length (joined before) → FirstWrong job place
