-- `product::stored` meets its contract: `proofs/Floats.antt` has both cases. Assumes nothing.
use mathlib.Core.Path.{◌≡◌, sym, ap, ◌∙◌}
use mathlib.Core.Bool.{Bool, ◌||◌}
use Prim.Native.Nat.{ℕ, ◌%◌}
use lib.Dec.{ltb}
use lib.Ieee.{Float, binary32, add, ne, of_bits, to_bits}
use Rattle.cells.specs.Parts.{width_in}
use Rattle.product.specs.Stored.{stored_as, stored_of}
use Rattle.product.proofs.Floats.{no_sum, sum_number, sum_read, sum_pattern}
use Rattle.product.proofs.stored.Goals as goal

-- the test, of the sum of the pattern's number
told : (wide : ℕ) (x : Float) (r : ℕ) (s : Float) (b : Bool) → x ≡ of_bits binary32 r → (ltb 2139095040 (wide % 2147483648) || ne (add binary32 x s) (add binary32 x s)) ≡ b
    → (ltb 2139095040 (wide % 2147483648) || ne (add binary32 (of_bits binary32 r) s) (add binary32 (of_bits binary32 r) s)) ≡ b
told wide x r s b is t = sym (ap (λ (y : Float). ltb 2139095040 (wide % 2147483648) || ne (add binary32 y s) (add binary32 y s)) is) ∙ t

pub returns-then-nan-x : goal.returns-then-nan-x
unfolding stored_of
returns-then-nan-x c = let a = c.args in
    let r = c.or_zero.result.bits in
    let w = c.widen-wide in
    let t = told w.result c.number.result r a.s _ c.number.ensures c.if-nan-x.true in
    c.not_a_number.ensures ∙ ap (stored_as (width_in a.part)) (no_sum w.result r a.s c.or_zero.ensures t ∙ ap (λ (b : ℕ). add binary32 (of_bits binary32 b) a.s) w.ensures)

pub float_to_bits-x : goal.float_to_bits-x
float_to_bits-x c = let a = c.args in
    let r = c.or_zero.result.bits in
    let t = told c.widen-wide.result c.number.result r a.s _ c.number.ensures c.if-nan-x.false in
    rw c.number.ensures (sum_number c.widen-wide.result r a.s c.or_zero.ensures t)

pub invariant_of-pack : goal.invariant_of-pack
invariant_of-pack c = let a = c.args in
    let r = c.or_zero.result.bits in
    let t = told c.widen-wide.result c.number.result r a.s _ c.number.ensures c.if-nan-x.false in
    record { is_number = rw c.number.ensures (sum_pattern c.widen-wide.result r a.s c.or_zero.ensures t) }

pub returns : goal.returns
unfolding stored_of
returns c = let a = c.args in
    let r = c.or_zero.result.bits in
    let w = c.widen-wide in
    let t = told w.result c.number.result r a.s _ c.number.ensures c.if-nan-x.false in
    c.pack.ensures ∙ ap (stored_as (width_in a.part)) (ap (λ (x : Float). of_bits binary32 (to_bits binary32 (add binary32 x a.s))) c.number.ensures ∙ sum_read w.result r a.s c.or_zero.ensures t ∙ ap (λ (b : ℕ). add binary32 (of_bits binary32 b) a.s) w.ensures)
