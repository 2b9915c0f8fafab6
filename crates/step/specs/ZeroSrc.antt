-- ZEROSRC: document 01, "What each does", the numbers. Definitions only.
use Rattle.std.specs.Prelude.{cond, ◌&&◌, not, ℕ, eqb}
use Rattle.cells.specs.Cells.{over_rows}
use Rattle.cells.specs.State.{State, state}
use Rattle.word.specs.declared.ZeroSrc.{ZeroSrc}
use Rattle.control.specs.declared.Control.{Control}
use Rattle.rules.specs.ZeroSrc.{filled_a, filled_b}

-- the fill is 0, but 0x7FFFF in SrcA when write mode is 1 and value isn't 0
abbrev pub fill_a : ZeroSrc → ℕ
fill_a z = cond (z.write && not (eqb z.value 0)) 0x7FFFF 0

abbrev pub zero_src_effect : Control → ZeroSrc → State → State
zero_src_effect c z s =
    state (over_rows (filled_a c z) (λ i. fill_a z) s.srca) (over_rows (filled_b c z) (λ i. 0) s.srcb) s.dst s.registers
