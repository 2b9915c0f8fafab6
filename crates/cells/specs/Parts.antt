-- A row lies in one part of its lent numbers: the whole numbers, their low halves or their high halves. A stretch of places is gone over part by
-- part, number after number. Definitions only.
use Rattle.std.specs.Prelude.{cond, List, ℕ, ◌+◌, ◌-◌, ◌*◌, ◌/◌, ◌%◌, ltb, length}
use Rattle.cells.specs.declared.Width.{Width}
use Rattle.cells.specs.declared.Width.TheVariants.{Bits32, Bits16}
use Rattle.cells.specs.Cells.{between}
use Rattle.cells.specs.Places.{over_at}
use Rattle.cells.specs.declared.Part.{Part}
use Rattle.cells.specs.declared.Part.TheVariants.{Whole, Low, High}

-- the width of rows that lie there
abbrev pub width_in : Part → Width
width_in Whole = Bits32
width_in Low = Bits16
width_in High = Bits16

-- what the part of a number holds
abbrev pub held_in : Part → ℕ → ℕ
held_in Whole x = x
held_in Low x = x % 65536
held_in High x = x / 65536

-- a number with that part anew; the other half stays
abbrev pub with_part : Part → ℕ → ℕ → ℕ
with_part Whole x v = v
with_part Low x v = x / 65536 * 65536 + v % 65536
with_part High x v = v % 65536 * 65536 + x % 65536

-- the place of the part of number i, of n numbers
abbrev pub place_in : Part → ℕ → ℕ → ℕ
place_in Whole n i = i
place_in Low n i = i
place_in High n i = n + i

-- the number of the part at place p, of n numbers; the first one for a place before the part
abbrev pub number_in : Part → ℕ → ℕ → ℕ
number_in Whole n p = p
number_in Low n p = p
number_in High n p = p - n

-- the part where place p lies, of n numbers
abbrev pub part_at : Width → ℕ → ℕ → Part
part_at Bits32 n p = Whole
part_at Bits16 n p = cond (ltb p n) Low High

-- i, or n where i is more
abbrev pub cut : ℕ → ℕ → ℕ
cut n i = cond (ltb i n) i n

-- A stretch begins or ends at place p: this is the number of the part, of n numbers, where what it has there begins or ends.
abbrev pub cut_in : Part → ℕ → ℕ → ℕ
cut_in a n p = cut n (number_in a n p)

-- the places from lo on and before hi that lie in the part become f of the place
unfoldable pub over_part : Part → ℕ → ℕ → (ℕ → ℕ) → List ℕ → List ℕ
over_part a lo hi f d =
    let n = length d in
    over_at (width_in a) (between (place_in a n (cut_in a n lo)) (place_in a n (cut_in a n hi))) f d
