-- `product::sums` meets its contract: within a turn over k each column gains its product, one after the other. Assumes nothing.
use mathlib.Core.Path.{◌≡◌}
use lib.ListN.{length}
use Rattle.cells.specs.Cells.{over, between}
use Rattle.product.specs.Sums.{sums_of}
use Rattle.product.proofs.Rows.{gained}
use Rattle.product.proofs.sums.Given as goal

abbrev pub invariant-loop-j : goal.invariant-loop-j
invariant-loop-j l = (length l.acc ≡ 16) × (length l.initial.acc ≡ 16) × (l.acc ≡ over (between 0 l.j) (gained l.fa l.k l.y l.initial.acc) l.initial.acc)

abbrev pub invariant-loop-k : goal.invariant-loop-k
invariant-loop-k l = (length l.acc ≡ 16) × (l.acc ≡ sums_of l.fa l.fb l.i l.k)
