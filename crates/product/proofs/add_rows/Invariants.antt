-- `product::add_rows` meets its contract: one row more in each turn. Assumes nothing.
use mathlib.Core.Path.{◌≡◌}
use lib.ListN.{length}
use Rattle.product.specs.Sums.{rows_added}
use Rattle.product.proofs.add_rows.Given as goal

abbrev pub invariant-loop-i : goal.invariant-loop-i
invariant-loop-i l = (length l.dst ≡ length l.initial.dst) × (l.dst ≡ rows_added l.part l.fa l.fb l.at l.i l.initial.dst)
