-- `numbers::lists::put` meets its contract: the part is copied. Assumes nothing.
use native.Mathlib.Omega.{arith}
use Rattle.numbers.proofs.Parts.{copied_all}
use Rattle.numbers.proofs.lists.put.Goals as goal

pub returns : goal.returns
returns c = copied_all c.args.b _ c.args.n.now c.copy_from_slice.ensures.after (omega arith) (omega arith)
