-- `datum::finite::Head::normal` meets its contract: `proofs/LowPart.antt` has the mathematics. Assumes nothing.
use mathlib.Core.Path.{◌≡◌, ap, ◌∙◌}
use Prim.Native.Nat.{◌+◌, ◌-◌, ◌*◌, ◌/◌, ◌%◌}
use native.Mathlib.Omega.{arith}
use mathlib.Core.Bool.{Bool}
use Rattle.datum.specs.Part.{bits_of}
use Rattle.datum.proofs.Places.{sign_at}
use Rattle.datum.proofs.LowPart.{in_turn, is_normal, normal_built}
use Rattle.datum.proofs.finite.Head.normal.Goals as goal

pub overflow_sub-result : goal.overflow_sub-result
overflow_sub-result c = let a = c.args in
    let w = in_turn a.n _ _ _ _ _ c.doubled.ensures.0 c.doubled-2.ensures.0 c.doubled-3.ensures.0 c.doubled-4.ensures.0 c.doubled-w.ensures.0 in
    let p = is_normal a.n (a.self.bits / 1024 % 256) (omega arith) (omega arith) c.requires.2 in
    omega (arith, w, p.held, p.most, p.above, p.five_is)

pub returns : goal.returns
returns c = let a = c.args in
    let h = a.self.bits in
    let w = in_turn a.n _ _ _ _ _ c.doubled.ensures.0 c.doubled-2.ensures.0 c.doubled-3.ensures.0 c.doubled-4.ensures.0 c.doubled-w.ensures.0 in
    let p = is_normal a.n (h / 1024 % 256) (omega arith) (omega arith) c.requires.2 in
    let head : h ≡ h / 1024 * 1024 = omega arith in
    λ e1.
    (λ i. (head i + (c.from.ensures ∙ w) i * 32 - 11 * 1024) * 8192)
    ∙ normal_built (h / 1024) a.n (omega arith) e1 (omega arith) (omega arith) p
    ∙ ap (λ (s : Bool). bits_of s a.n (h / 1024 % 256)) (sign_at h (omega arith))
