-- `product::inside` meets its contract. Assumes nothing.
use mathlib.Core.Path.{ap}
use mathlib.Core.Bool.{◌&&◌}
use lib.Dec.{leb}
use Prim.Native.Nat.{ℕ, ◌+◌, ◌*◌}
use Rattle.product.specs.Product.{fits}
use Rattle.product.proofs.inside.Goals as goal

pub returns : goal.returns
unfolding fits
returns c = let a = c.args in
    let p = a.p in
    ap (λ (x : ℕ). (leb p.rows 8 && leb ((p.a + 16) * 16) a.la && leb ((p.b + 8) * 16) a.lb) && leb (x + p.rows * 16) a.ld) c.requires.0
