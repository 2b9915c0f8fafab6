-- `product::add_in` meets its contract: before column j the numbers have their sums. Assumes nothing.
use mathlib.Core.Path.{◌≡◌, sym, ap, ◌∙◌}
use Prim.Native.Nat.{ℕ, ◌+◌}
use native.Mathlib.Nat.{add-zero}
use native.Mathlib.Omega.{arith}
use Rattle.cells.proofs.Parts.{gone, gone_none}
use Rattle.product.specs.Sums.{new_in}
use Rattle.product.proofs.Rows.{column_turn, column_end}
use Rattle.product.proofs.add_in.Goals as goal

pub loop-j-init : goal.loop-j-init
loop-j-init c = let a = c.args in
    (gone_none a.part _ a.dst.now a.at ∙ ap (gone a.part _ a.dst.now a.at) (sym (add-zero a.at)))

pub loop-j-preserved : goal.loop-j-preserved
loop-j-preserved c = let l = c.loop-j in
    (column_turn _ _ _ _ l.dst l.j _ _ (omega arith) (omega arith) l.invariant c.stored.ensures c.with_part.ensures)

pub returns : goal.returns
returns c = let l = c.loop-j in
    let a = c.args in
    let all : l.j ≡ 16 = omega arith in
    column_end a.part a.sum.now a.at a.dst.now l.dst (l.invariant ∙ ap (λ (j : ℕ). gone a.part (new_in a.part a.sum.now a.at a.dst.now) a.dst.now a.at (a.at + j)) all)
