-- Document 01, "Datum": the value of a finite datum, and two slices that make up a value. Definitions only.
use Rattle.std.specs.Prelude.{ℕ, ◌+◌, ◌*◌, ◌/◌, ◌^◌, ◌≡◌, Bool, ◌&&◌, ltb, Float}
use Rattle.std.specs.Float.Ieee.Exact.{HasValue}
use Rattle.cells.specs.declared.layout.File.{File}
use Rattle.cells.specs.declared.layout.File.TheVariants.{A, B}
use Rattle.datum.specs.declared.Slices.{Slices}

-- an exact value: so many times 2^−137, negative or not
pub record Value : Type 0 where
  pub negative : Bool
  pub units : ℕ

-- finite, (1024 + m) × 2^(e−137) with its sign
abbrev pub finite_value : Bool → ℕ → ℕ → Value
finite_value s e m = record { negative = s; units = (1024 + m) * 2 ^ e }

-- the mantissa that is left in a file's parts: all of it in SrcB's, all but its lowest bit in SrcA's
abbrev pub kept_mantissa : File → ℕ → ℕ
kept_mantissa A m = m / 2 * 2
kept_mantissa B m = m

-- y is exactly n × 2^−137, with the sign s; +0 where n is 0
abbrev pub IsUnits : Float → Bool → ℕ → Type 0
IsUnits y s n = HasValue y (s && ltb 0 n) n (2 ^ 137)

-- two slices of a value's sign whose sizes add up to its size
pub record MakeUp (p : Slices) (v : Value) : Type 0 where
  pub high : ℕ
  pub low : ℕ
  pub is_high : IsUnits p.high v.negative high
  pub is_low : IsUnits p.low v.negative low
  pub sum : high + low ≡ v.units
