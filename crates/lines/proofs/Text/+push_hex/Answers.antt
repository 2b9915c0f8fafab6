-- `Text::push_hex` meets its contract: the digits before the last, then the last. Assumes nothing.
use mathlib.Core.Path.{◌≡◌, ◌∙◌}
use native.Mathlib.Omega.{arith}
use Rattle.lines.specs.Text.{wrote}
use Rattle.lines.proofs.Writing.{wrote_last, hex_none, hex_more}
use Rattle.lines.proofs.Text.+push_hex.Goals as goal

pub returns-then-digits-gt0 : goal.returns-then-digits-gt0
returns-then-digits-gt0 t c =
    let more : c.args.digits ≡ 0 → ⊥ = omega arith in
    c.push.ensures ∙ rw (c.push_hex.ensures, c.hex_digit.ensures, hex_more _ _ more) (wrote_last _ _ _)

pub returns-else-digits-gt0 : goal.returns-else-digits-gt0
unfolding wrote
returns-else-digits-gt0 t c = let last : c.args.digits ≡ 0 = omega arith in rw (hex_none _ _ last)
