-- `product::sums` meets its contract: within a turn over k each column gains its product, one after the other. Assumes nothing.
use mathlib.Core.Path.{◌≡◌, refl, sym, ap, ◌∙◌}
use Prim.Native.Nat.{ℕ, zero-le}
use native.Mathlib.Nat.{le_refl}
use lib.ListN.{get_or, length-set}
use lib.Ieee.{Float, nan, binary32, add, mul}
use Rattle.cells.specs.Layout.{cell}
use Rattle.cells.specs.Cells.{over, between}
use Rattle.cells.proofs.Cells.{over_between_none, turn, ahead}
use Rattle.product.proofs.Rows.{gained, sums_start, sums_turn}
use native.Mathlib.Omega.{arith}
use Rattle.product.proofs.sums.Goals as goal

pub loop-k-init : goal.loop-k-init
loop-k-init c = (refl, sums_start _ _ _)

pub loop-j-init : goal.loop-j-init
loop-j-init c = (c.loop-k.invariant.0, c.loop-k.invariant.0, sym (over_between_none _ nan _ 0))

pub loop-j-preserved : goal.loop-j-preserved
loop-j-preserved c = let args = c.args in
    let acc = c.loop-j.acc in
    let j = c.loop-j.j in
    let k = c.loop-k.k in
    let y = get_or args.fb.now (cell args.i k) nan in
    let product = mul binary32 (get_or args.fa.now (cell k j) nan) y in
    let inv = c.loop-j.invariant in
    let rule = gained args.fa.now k y c.loop-k.acc in (
      length-set acc j (add binary32 (get_or acc j nan) product) ∙ inv.0,
      inv.1,
      turn nan rule c.loop-k.acc acc 0 j _ zero-le (omega arith) inv.2
          (ap (λ (x : Float). add binary32 x product) (ahead nan rule c.loop-k.acc acc 0 j j (le_refl j) inv.2)),
    )

pub loop-k-preserved : goal.loop-k-preserved
loop-k-preserved c = let args = c.args in
    let k = c.loop-k.k in
    let acc₀ = c.loop-k.acc in
    let all : c.loop-j.j ≡ 16 = omega arith in (
      c.loop-j.invariant.0,
      c.loop-j.invariant.2
          ∙ ap (λ (n : ℕ). over (between 0 n) (gained args.fa.now k (get_or args.fb.now (cell args.i k) nan) acc₀) acc₀) all
          ∙ sums_turn args.fa.now args.fb.now acc₀ args.i k c.loop-k.invariant.1,
    )
