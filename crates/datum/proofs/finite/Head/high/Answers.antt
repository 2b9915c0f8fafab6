-- `datum::finite::Head::high` meets its contract: `proofs/Parts.antt` has the mathematics. Assumes nothing.
use mathlib.Core.Path.{◌≡◌, ap, ◌∙◌}
use Prim.Native.Nat.{◌+◌, ◌*◌, ◌/◌, ◌%◌}
use native.Mathlib.Omega.{arith}
use mathlib.Core.Bool.{Bool}
use Rattle.datum.specs.Part.{bits_of}
use Rattle.datum.proofs.Places.{sign_at}
use Rattle.datum.proofs.Parts.{high_built}
use Rattle.datum.proofs.finite.Head.high.Goals as goal

pub returns : goal.returns
returns c = let h = c.args.self.bits in
    let k = c.args.bits in
    λ e0 e1.
    let same : (h + k) * 8192 ≡ h / 1024 * 8388608 + k * 8192 = omega arith in
    same
    ∙ high_built (h / 1024) k (omega arith) e0 e1 (omega arith)
    ∙ ap (λ (s : Bool). bits_of s (1024 + k) (h / 1024 % 256)) (sign_at h (omega arith))
