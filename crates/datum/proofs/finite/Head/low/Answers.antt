-- `datum::finite::Head::low` meets its contract: `proofs/LowPart.antt` has the mathematics. Assumes nothing.
use mathlib.Core.Path.{◌≡◌, sym, ap, ◌∙◌}
use Prim.Native.Nat.{ℕ, ◌+◌, ◌*◌, ◌/◌, ◌%◌}
use native.Mathlib.Omega.{arith}
use mathlib.Core.Bool.{Bool}
use Rattle.datum.specs.Part.{bits_of}
use Rattle.datum.specs.Read.{sign_of, exponent_of}
use Rattle.datum.proofs.Places.{sign_at}
use Rattle.datum.proofs.Parts.{zero_bits}
use Rattle.datum.proofs.LowPart.{subnormal_built, is_subnormal, not_subnormal}
use Rattle.datum.proofs.finite.Head.low.Goals as goal

pub returns-then-n-eq0 : goal.returns-then-n-eq0
returns-then-n-eq0 c = let h = c.args.self.bits in
    λ e0 e1. zero_bits (sign_of h) (exponent_of h) ∙ ap (λ (n : ℕ). bits_of (sign_of h) n (exponent_of h)) (sym c.if-n-eq0.true)

pub returns-then-self-units : goal.returns-then-self-units
returns-then-self-units c = let a = c.args in
    let h = a.self.bits in
    let e = h / 1024 % 256 in
    let s = is_subnormal h a.n (omega arith) c.if-self-units.true in
    let sign : h / 262144 ≡ h / 1024 / 256 = omega arith in
    λ e0 e1.
    (λ i. sign i * 2147483648 + s.0 i * 4096)
    ∙ subnormal_built (h / 1024) a.n (omega arith) e0 e1 (omega arith) (omega arith) s.1
    ∙ ap (λ (s : Bool). bits_of s a.n e) (sign_at h (omega arith))

pub normal-requires : goal.normal-requires
normal-requires c = let a = c.args in
    (omega arith, omega arith, not_subnormal a.self.bits a.n (omega arith) (omega arith) c.if-self-units.false)
