-- `product::each_slice` meets its contract: before place i each slice is what `read` made. Assumes nothing.
use mathlib.Core.Bool.{Bool}
use Prim.Native.Nat.{ℕ, ◌+◌, ◌*◌}
use lib.ListN.{get_or, length-set}
use lib.Ieee.{Float}
use mathlib.Core.Path.{◌∙◌}
use native.Mathlib.Omega.{arith}
use Rattle.product.proofs.Sliced.{each_more}
use Rattle.product.proofs.each_slice.Goals as goal

pub loop-i-preserved : goal.loop-i-preserved
loop-i-preserved g c = let l = c.loop-i in (
  length-set l.out l.i c.read-slice.result.0 ∙ l.invariant.0,
  each_more (λ (k : ℕ) (y : Float) (b : Bool). goal.F-post g c.args.read (get_or c.args.src.now (c.args.first * 16 + k) 0) (y, b)) l.out l.all l.i c.read-slice.result.0 c.read-slice.result.1
      l.invariant.1 (omega arith) c.read-slice.ensures,
)

pub returns : goal.returns
returns g c = λ k h. c.loop-i.invariant.1 k (omega arith)
