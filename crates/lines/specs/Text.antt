-- Document 01, "Numbers to check against": a line and an answer as bytes: thread, register and row in decimal, values as eight lowercase
-- hexadecimal digits, those of a row in the BF16 mode as four, single spaces, a newline at the end. A text is a hundred and sixty bytes, of
-- which the first `len` count. Definitions only.
use Rattle.std.specs.Prelude.{cond, ◌≡◌, List, [], ◌∷◌, ◌++◌, ℕ, zero, suc, ◌+◌, ◌/◌, ◌%◌, ◌≤◌, ltb, length, get_or, set, take, replicate, Option, None, Some}
use Rattle.cells.specs.Places.{digits_of}
use Rattle.cells.specs.Layout.{column_count, register}
use Rattle.lines.specs.Lines.{Line, row, value, columns}
use Rattle.lines.specs.declared.Text.{Text}
use Rattle.lines.specs.declared.found.What.{What}
use Rattle.lines.specs.declared.found.What.TheVariants as what

-- ---- a text and what is written to it

unfoldable pub empty_text : Text
empty_text = record { bytes = replicate 160 0; len = 0 }

-- a full text stays as it is
unfoldable pub pushed : Text → ℕ → Text
pushed t b = cond (ltb t.len 160) (record { bytes = set t.bytes t.len b; len = t.len + 1 }) t

unfoldable pub wrote : Text → List ℕ → Text
wrote t [] = t
wrote t (b ∷ bs) = wrote (pushed t b) bs

-- the text of a list of bytes
abbrev pub made : List ℕ → Text
made l = wrote empty_text l

-- the bytes that count
abbrev pub bytes_in : Text → List ℕ
bytes_in t = take t.len t.bytes

-- they are this list, all of it
pub record Holds (t : Text) (l : List ℕ) : Type 0 where
  pub short : t.len ≤ 160
  pub size : t.len ≡ length l
  pub first : bytes_in t ≡ l

-- ---- numbers

-- at most suc k decimal digits, the last one last; no zero in front
unfoldable pub decimal_up_to : ℕ → ℕ → List ℕ
decimal_up_to zero n = (48 + n % 10) ∷ []
decimal_up_to (suc k) n = cond (ltb n 10) ((48 + n) ∷ []) (decimal_up_to k (n / 10) ++ (48 + n % 10) ∷ [])

unfoldable pub decimal : ℕ → List ℕ
decimal n = decimal_up_to n n

-- 0 to 9, then a to f
unfoldable pub hex_digit : ℕ → ℕ
hex_digit d = cond (ltb d 10) (48 + d) (87 + d)

-- the last k hexadecimal digits, zeros in front
unfoldable pub hex : ℕ → ℕ → List ℕ
hex zero v = []
hex (suc k) v = hex k (v / 16) ++ hex_digit (v % 16) ∷ []

-- ---- words, each with the space after it

-- `D `, `G `
abbrev pub word_row : List ℕ
word_row = 68 ∷ 32 ∷ []

abbrev pub word_register : List ℕ
word_register = 71 ∷ 32 ∷ []

-- `finished `, `passed `
abbrev pub word_finished : List ℕ
word_finished = 102 ∷ 105 ∷ 110 ∷ 105 ∷ 115 ∷ 104 ∷ 101 ∷ 100 ∷ 32 ∷ []

abbrev pub word_passed : List ℕ
word_passed = 112 ∷ 97 ∷ 115 ∷ 115 ∷ 101 ∷ 100 ∷ 32 ∷ []

-- `refused `, ` at `, ` bit `
abbrev pub word_refused : List ℕ
word_refused = 114 ∷ 101 ∷ 102 ∷ 117 ∷ 115 ∷ 101 ∷ 100 ∷ 32 ∷ []

abbrev pub word_at : List ℕ
word_at = 32 ∷ 97 ∷ 116 ∷ 32 ∷ []

abbrev pub word_bit : List ℕ
word_bit = 32 ∷ 98 ∷ 105 ∷ 116 ∷ 32 ∷ []

-- ---- lines

-- a space and k digits for each value
unfoldable pub values : ℕ → List ℕ → List ℕ
values k [] = []
values k (v ∷ vs) = 32 ∷ hex k v ++ values k vs

-- `D 7 00000000 ..`, in the BF16 mode `D 7 0000 ..`, and `G 0 3 00000009`
unfoldable pub text_of : Line → List ℕ
text_of (row w r vs) = word_row ++ decimal r ++ values (digits_of w) vs ++ 10 ∷ []
text_of (value t r v) = word_register ++ decimal t ++ 32 ∷ decimal r ++ values 8 (v ∷ []) ++ 10 ∷ []

-- the line that stands at a place, over Dst and the registers
unfoldable pub line_of : What → List ℕ → List ℕ → Line
line_of (what.Row w r) dst registers = row w r (columns w dst r 0 column_count)
line_of (what.Register t r) dst registers = value t r (get_or registers (register t r) 0)

-- ---- answers

-- a word and a count
abbrev pub count_text : List ℕ → ℕ → List ℕ
count_text w n = w ++ decimal n ++ 10 ∷ []

-- `finished 1`
unfoldable pub finished_text : ℕ → List ℕ
finished_text n = count_text word_finished n

-- ` bit 16`, or nothing
unfoldable pub bit_text : Option ℕ → List ℕ
bit_text None = []
bit_text (Some i) = word_bit ++ decimal i

-- `refused 8 at 180`; with a bit `refused 3 at 172 bit 16`
unfoldable pub refused_text : ℕ → ℕ → Option ℕ → List ℕ
refused_text n p i = word_refused ++ decimal n ++ word_at ++ decimal p ++ bit_text i ++ 10 ∷ []

-- `passed 1`
unfoldable pub passed_text : ℕ → List ℕ
passed_text n = count_text word_passed n
