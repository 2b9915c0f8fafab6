-- `product::multiply` meets its contract: what fits is split, row by row summed, and added to Dst. Assumes nothing.
use mathlib.Core.Path.{◌≡◌, refl, sym, ap, ◌∙◌}
use Prim.Native.Nat.{ℕ, ◌+◌, ◌*◌, ◌≤◌}
use native.Mathlib.Omega.{arith}
use mathlib.Core.List.{List}
use lib.ListN.{length, take, length-take}
use lib.Ieee.{Float}
use Rattle.cells.specs.declared.Part.{Part}
use Rattle.cells.specs.declared.Part.TheVariants.{Whole, Low, High}
use Rattle.cells.specs.Parts.{number_in}
use Rattle.cells.specs.declared.layout.File.{File}
use Rattle.product.specs.declared.Product.{Product}
use Rattle.product.specs.declared.Reading.{Reading}
use Rattle.product.specs.Product.{part_for, first_in}
use Rattle.product.specs.Sums.{slices_of}
use Rattle.product.proofs.MultipliedDst.{fits_each}
use Rattle.product.proofs.Whole.{whole}
use Rattle.product.proofs.multiply.Goals as goal

number-most : (a : Part) (n p : ℕ) → number_in a n p ≤ p
number-most Whole n p = omega arith
number-most Low n p = omega arith
number-most High n p = omega arith

-- the first number in the part
first : (s : Product) (n r : ℕ) (a : Part) → r ≡ number_in a n (s.dst * 16) → a ≡ part_for s n → r ≡ first_in s n
first s n r a e part = e ∙ ap (λ (q : Part). number_in q n (s.dst * 16)) part

-- slices as they are read
read_by : (by : Reading) (file : File) (format phase : ℕ) (src : List ℕ) (first : ℕ) (out l : List Float) → l ≡ slices_of by.file by.format by.phase src first out → by ≡ record { file = file; format = format; phase = phase }
    → l ≡ slices_of file format phase src first out
read_by by file format phase src first out l e is = e ∙ ap (λ (r : Reading). slices_of r.file r.format r.phase src first out) is

-- the numbers of SrcB that the rows use
used-length : (rows : ℕ) (l : List Float) → length l ≡ 128 → rows ≤ 8 → length (take (rows * 16) l) ≡ rows * 16
used-length rows l e h = length-take (rows * 16) l ∙ omega arith

used-fits : (first rows : ℕ) (l : List Float) (n : ℕ) → length l ≡ 128 → rows ≤ 8 → (first + 8) * 16 ≤ n → first * 16 + length (take (rows * 16) l) ≤ n
used-fits first rows l n e h b = rw (used-length rows l e h) (omega arith)

pub inside-fit-requires : goal.inside-fit-requires
inside-fit-requires c = let args = c.args in
    let e = first args.p _ _ _ c.number_in-at.ensures c.part_for-part.ensures in
    (e, rw e (number-most (part_for args.p _) _ (args.p.dst * 16)))

pub slices-requires : goal.slices-requires
slices-requires c = let args = c.args in
    let f = fits_each args.p _ _ _ (sym c.inside-fit.ensures ∙ c.if-fit.true) in
    omega arith

pub slice_bounds-fb-end : goal.slice_bounds-fb-end
slice_bounds-fb-end c = let args = c.args in
    let f = fits_each args.p _ _ _ (sym c.inside-fit.ensures ∙ c.if-fit.true) in
    omega arith

pub slice_bounds-slices-end-then-fit : goal.slice_bounds-slices-end-then-fit
slice_bounds-slices-end-then-fit c = let args = c.args in
    let f = fits_each args.p _ _ _ (sym c.inside-fit.ensures ∙ c.if-fit.true) in
    sym (used-length args.p.rows _ refl f.0)

pub slices-requires-then-fit : goal.slices-requires-then-fit
slices-requires-then-fit c = let args = c.args in
    let f = fits_each args.p _ _ _ (sym c.inside-fit.ensures ∙ c.if-fit.true) in
    used-fits args.p.b args.p.rows _ _ refl f.0 f.2

pub add_rows-requires : goal.add_rows-requires
add_rows-requires c = let args = c.args in
    let f = fits_each args.p _ _ _ (sym c.inside-fit.ensures ∙ c.if-fit.true) in
    (f.0, omega (arith, first args.p _ _ _ c.number_in-at.ensures c.part_for-part.ensures))

pub returns-then-fit : goal.returns-then-fit
returns-then-fit c = let args = c.args in
    let fit = sym c.inside-fit.ensures ∙ c.if-fit.true in
    let small = (fits_each args.p _ _ _ fit).0 in
    let part = c.part_for-part.ensures in
    record {
      answer = c.inside-fit.ensures;
      left = whole args.p args.srca.now args.srcb.now _ _ _ _ _ _ refl (used-length args.p.rows _ refl small) (read_by _ _ _ _ _ _ _ _ c.slices.ensures c.reading.ensures) (read_by _ _ _ _ _ _ _ _ c.slices-then-fit.ensures c.reading-then-fit.ensures) refl args.dst.now _ _ _ fit part
          (first args.p _ _ _ c.number_in-at.ensures part) c.add_rows.ensures;
    }

pub returns-else-fit : goal.returns-else-fit
returns-else-fit c = record { answer = c.inside-fit.ensures; left = rw (sym c.inside-fit.ensures ∙ c.if-fit.false) }
