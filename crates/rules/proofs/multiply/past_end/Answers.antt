-- `rules::multiply::past_end` meets its contract. Assumes nothing.
use mathlib.Core.Path.{sym, ap, ◌∙◌}
use Prim.Native.Nat.{ℕ, ◌<◌}
use native.Mathlib.Omega.{arith}
use lib.Dec.{leb}
use borrow.Author.Tests.{lt-leb}
use Rattle.cells.specs.declared.Width.{Width}
use Rattle.cells.specs.declared.Width.TheVariants.{Bits32, Bits16}
use Rattle.cells.specs.Places.{row_count}
use Rattle.control.specs.Record.{width_of}
use Rattle.rules.proofs.multiply.past_end.Goals as goal

inside-all : (w : Width) (row : ℕ) → row < 512 → row < row_count w
inside-all Bits32 row h = h
inside-all Bits16 row h = omega arith

pub returns-then-row-lt-DST_ROWS : goal.returns-then-row-lt-DST_ROWS
returns-then-row-lt-DST_ROWS c = let a = c.args in sym (lt-leb (row_count (width_of a.s)) a.row (inside-all (width_of a.s) a.row c.if-row-lt-DST_ROWS.true))

pub returns : goal.returns
returns c = let a = c.args in ap (λ (n : ℕ). leb n a.row) (c.row_count.ensures ∙ ap row_count c.width_of.ensures)
