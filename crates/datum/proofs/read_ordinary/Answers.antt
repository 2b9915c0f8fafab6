-- `datum::read_ordinary` meets its contract: finite or zero. Assumes nothing.
-- the slices go by the kind
use mathlib.Core.Path.{◌≡◌, sym, ap, ◌∙◌}
use mathlib.Core.Bool.{true, false, ◌&&◌}
use Prim.Native.Nat.{ℕ}
use native.Mathlib.Omega.{arith}
use lib.Dec.{ltb}
use Rattle.cells.specs.declared.layout.File.{File}
use Rattle.datum.specs.Read.{sign_of, exponent_of, mantissa_of, ordinary_of, ordinary_slices, datum_slices}
use Rattle.datum.specs.declared.Datum.{Datum}
use Rattle.datum.specs.declared.Datum.TheVariants.{Finite}
use Rattle.datum.proofs.Places.{own_fields}
use Rattle.datum.proofs.Parts.{mantissa_digits, patterns_numbers, patterns_split}
use Rattle.datum.proofs.ReadSlices.{ordinary_slices_lem, exponent_middle, finite_ordinary, other_ordinary}
use Rattle.datum.proofs.read_ordinary.Goals as goal

told : (f : File) (format x : ℕ) {r : Datum} → r ≡ ordinary_of f format x → record { kind : r ≡ ordinary_of f format x; slices : datum_slices r ≡ ordinary_slices f format x }
told f format x e = record { kind = e; slices = ap datum_slices e ∙ ordinary_slices_lem f format x }

pub numbers-requires : goal.numbers-requires
numbers-requires c = let a = c.args in
    let r = exponent_middle (exponent_of a.x) (sym c.middle.ensures ∙ c.if-middle.true) in
    patterns_numbers _ a.file (sign_of a.x) (exponent_of a.x) (mantissa_of a.format a.x) (own_fields _ a.file a.format a.x c.build.ensures (omega (arith, r.0)) r.1) (mantissa_digits a.format a.x) r.1

pub returns-then-middle : goal.returns-then-middle
returns-then-middle c = let a = c.args in
    let t : (ltb 10 (exponent_of a.x) && ltb (exponent_of a.x) 255) ≡ true = sym c.middle.ensures ∙ c.if-middle.true in
    let r = exponent_middle (exponent_of a.x) t in
    let p = patterns_split _ a.file (sign_of a.x) (exponent_of a.x) (mantissa_of a.format a.x) (own_fields _ a.file a.format a.x c.build.ensures (omega (arith, r.0)) r.1) (mantissa_digits a.format a.x) r.1 in
    told a.file a.format a.x (ap Finite (c.numbers.ensures ∙ p) ∙ sym (finite_ordinary a.file a.format a.x t))

pub returns : goal.returns
returns c = let a = c.args in
    let r : (ltb 10 (exponent_of a.x) && ltb (exponent_of a.x) 255) ≡ false = sym c.middle.ensures ∙ c.if-middle.false in
    told a.file a.format a.x (sym (other_ordinary a.file a.format a.x r))
