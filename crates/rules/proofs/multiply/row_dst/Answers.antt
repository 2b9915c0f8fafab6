-- `rules::multiply::row_dst` meets its contract. Assumes nothing.
use native.Mathlib.Omega.{arith}
use lib.Bits.{and_le_r}
use Rattle.rules.proofs.multiply.row_dst.Goals as goal

pub overflow_cast-result-2 : goal.overflow_cast-result-2
overflow_cast-result-2 c = omega (arith, and_le_r c.dst_sum-sum.result c.height_mask-mask.result)

pub returns : goal.returns
returns c = simp (c.height_mask-mask.ensures, c.dst_sum-sum.ensures)
