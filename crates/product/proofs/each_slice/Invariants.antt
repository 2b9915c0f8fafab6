-- `product::each_slice` meets its contract: before place i each slice is what `read` made. Assumes nothing.
use mathlib.Core.Path.{◌≡◌}
use mathlib.Core.Bool.{Bool, true}
use Prim.Native.Nat.{ℕ, ◌+◌, ◌*◌, ◌<◌}
use lib.ListN.{length, get_or}
use lib.Ieee.{nan}
use Rattle.product.proofs.each_slice.Given as goal

abbrev pub invariant-loop-i : goal.invariant-loop-i
invariant-loop-i g l =
    (length l.out ≡ length l.initial.out)
    × ((k : ℕ) → k < l.i → (known : Bool) × goal.F-post g l.read (get_or l.src (l.first * 16 + k) 0) (get_or l.out k nan, known) × (l.all ≡ true → known ≡ true))
