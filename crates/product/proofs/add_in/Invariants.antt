-- `product::add_in` meets its contract: before column j the numbers have their sums. Assumes nothing.
use mathlib.Core.Path.{◌≡◌}
use Prim.Native.Nat.{◌+◌}
use Rattle.cells.proofs.Parts.{gone}
use Rattle.product.specs.Sums.{new_in}
use Rattle.product.proofs.add_in.Given as goal

abbrev pub invariant-loop-j : goal.invariant-loop-j
invariant-loop-j l = (l.dst ≡ gone l.part (new_in l.part l.sum l.at l.initial.dst) l.initial.dst l.at (l.at + l.j))
