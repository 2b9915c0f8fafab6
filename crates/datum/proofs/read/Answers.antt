-- `datum::read` meets its contract, kind by kind. Assumes nothing.
-- the slices go by the kind
use mathlib.Core.Path.{◌≡◌, ap, ◌∙◌}
use Prim.Native.Nat.{ℕ}
use native.Mathlib.Omega.{arith}
use borrow.Author.Tests.{ne_eqb}
use Rattle.cells.specs.declared.layout.File.{File}
use Rattle.datum.specs.Read.{sign_of, exponent_of, mantissa_of, datum_of, datum_slices, number_slices}
use Rattle.datum.specs.declared.Datum.{Datum}
use Rattle.datum.specs.declared.Datum.TheVariants.{Finite}
use Rattle.datum.proofs.Places.{own_fields, finite_exponent}
use Rattle.datum.proofs.Parts.{mantissa_digits, patterns_numbers, patterns_split}
use Rattle.datum.proofs.ReadSlices.{kind_slices}
use Rattle.datum.proofs.read.Goals as goal

told : (f : File) (format x : ℕ) {r : Datum} → r ≡ datum_of f format x → record { kind : r ≡ datum_of f format x; slices : datum_slices r ≡ number_slices f format x }
told f format x e = record { kind = e; slices = ap datum_slices e ∙ kind_slices f (sign_of x) (exponent_of x) (mantissa_of format x) }

pub numbers-requires : goal.numbers-requires
numbers-requires c = let a = c.args in
    let e = finite_exponent a.x _ c.exponent-e.ensures c.if-e-eq0.false c.if-e-eq-SPECIAL.false in
    patterns_numbers _ a.file (sign_of a.x) (exponent_of a.x) (mantissa_of a.format a.x) (own_fields _ a.file a.format a.x c.build-p.ensures e.0 e.1) (mantissa_digits a.format a.x) e.1

pub returns : goal.returns
returns c = let a = c.args in
    let e = finite_exponent a.x _ c.exponent-e.ensures c.if-e-eq0.false c.if-e-eq-SPECIAL.false in
    let p = patterns_split _ a.file (sign_of a.x) (exponent_of a.x) (mantissa_of a.format a.x) (own_fields _ a.file a.format a.x c.build-p.ensures e.0 e.1) (mantissa_digits a.format a.x) e.1 in
    told a.file a.format a.x
    (rw (ne_eqb (exponent_of a.x) 0 (λ z. omega (arith, e.0, z)), ne_eqb (exponent_of a.x) 255 (λ z. omega (arith, e.1, z))) (ap Finite (c.numbers.ensures ∙ p)))
