-- Rows of 32-bit and of 16-bit numbers on the same lent list: with 16 bits the list has twice the places, first the low half of
-- each number and then the high half of each. Definitions only.
use Rattle.std.specs.Prelude.{Bool, cond, List, ℕ, ◌+◌, ◌-◌, ◌*◌, ◌/◌, ◌%◌, ◌^◌, length, get_or, ltb}
use Rattle.cells.specs.declared.layout.Span.{Span}
use Rattle.cells.specs.declared.Width.{Width}
use Rattle.cells.specs.declared.Width.TheVariants.{Bits32, Bits16}
use Rattle.cells.specs.Layout.{column_count, dst_rows}
use Rattle.cells.specs.Cells.{mapi, over, in_span}

-- how many rows Dst has
abbrev pub row_count : Width → ℕ
row_count Bits32 = dst_rows
row_count Bits16 = 2 * dst_rows

-- the values are below this
abbrev pub limit_of : Width → ℕ
limit_of Bits32 = 2 ^ 32
limit_of Bits16 = 2 ^ 16

-- how many hexadecimal digits of a value are printed
abbrev pub digits_of : Width → ℕ
digits_of Bits32 = 8
digits_of Bits16 = 4

-- how many places n lent numbers have
abbrev pub places_of : Width → ℕ → ℕ
places_of Bits32 n = n
places_of Bits16 n = n + n

-- a value as a place keeps it: a value below the limit is kept_in as it is
abbrev pub kept_in : Width → ℕ → ℕ
kept_in Bits32 v = v
kept_in Bits16 v = v % 65536

-- the half at place p: the low half of number p, or the high half of number p - n
unfoldable pub half_at : List ℕ → ℕ → ℕ
half_at d p = cond (ltb p (length d)) (get_or d p 0 % 65536) (get_or d (p - length d) 0 / 65536)

-- number i, its high half standing at place n + i and its low half at place i; a half whose place does not pass stays
abbrev pub halves : (ℕ → Bool) → (ℕ → ℕ) → ℕ → ℕ → ℕ → ℕ
halves p f n i x = cond (p (n + i)) (f (n + i) % 65536) (x / 65536) * 65536 + cond (p i) (f i % 65536) (x % 65536)

-- the halves at the places where p holds become f of the place; the others stay
unfoldable pub over_halves : (ℕ → Bool) → (ℕ → ℕ) → List ℕ → List ℕ
over_halves p f d = let n = length d in mapi 0 (halves p f n) d

-- the number at place p
unfoldable pub get_at : Width → List ℕ → ℕ → ℕ
get_at Bits32 d p = get_or d p 0
get_at Bits16 d p = half_at d p

-- the numbers at the places where p holds become f of the place; the others stay
unfoldable pub over_at : Width → (ℕ → Bool) → (ℕ → ℕ) → List ℕ → List ℕ
over_at Bits32 p f d = over p f d
over_at Bits16 p f d = over_halves p f d

-- the numbers of a span of rows, sixteen to a row
abbrev pub over_rows_at : Width → Span → (ℕ → ℕ) → List ℕ → List ℕ
over_rows_at w s f d = over_at w (λ i. in_span s (i / column_count)) f d
