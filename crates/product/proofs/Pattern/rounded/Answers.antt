-- `product::Pattern::rounded` meets its contract: `proofs/Narrow.antt` has the rounding by bits. Assumes nothing.
use mathlib.Core.Path.{sym}
use native.Mathlib.Omega.{arith}
use Rattle.product.proofs.Narrow.{narrowed_bits}
use Rattle.product.proofs.Pattern.rounded.Goals as goal

pub returns : goal.returns
returns c = sym (narrowed_bits _ (omega arith) (omega arith))
