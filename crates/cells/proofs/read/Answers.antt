-- `cells::read` meets its contract, width by width. Assumes nothing.
use mathlib.Core.Path.{sym, ap, ◌∙◌}
use Prim.Native.Nat.{ℕ, ◌/◌}
use native.Mathlib.Omega.{arith}
use Rattle.cells.specs.declared.Width.{Width}
use Rattle.cells.specs.Places.{get_at}
use Rattle.cells.proofs.Places.{half_low, half_high}
use Rattle.cells.proofs.read.Goals as goal

pub returns-in-Bits32 : goal.returns-in-Bits32
unfolding get_at
returns-in-Bits32 c = let a = c.args in
    c.lent.ensures ∙ sym (ap (λ (w : Width). get_at w a.file.now a.place) c.in-Bits32.is)

pub returns-then-place-file : goal.returns-then-place-file
unfolding get_at
returns-then-place-file c = let a = c.args in
    sym (ap (λ (w : Width). get_at w a.file.now a.place) c.in-Bits16.is ∙ half_low a.file.now a.place (omega arith))

pub returns-else-place-file : goal.returns-else-place-file
unfolding get_at
returns-else-place-file c = let a = c.args in
    ap (λ (x : ℕ). x / 65536) c.lent-in-Bits16.ensures ∙ sym (ap (λ (w : Width). get_at w a.file.now a.place) c.in-Bits16.is ∙ half_high a.file.now a.place (omega arith))
