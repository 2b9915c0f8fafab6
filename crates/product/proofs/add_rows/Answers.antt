-- `product::add_rows` meets its contract: one row more in each turn. Assumes nothing.
use mathlib.Core.Path.{refl, sym, ◌∙◌}
use Prim.Native.Nat.{◌+◌, ◌*◌}
use Rattle.product.specs.Sums.{row_added}
use Rattle.product.proofs.Rows.{rows_none, rows_turn}
use Rattle.product.proofs.add_rows.Goals as goal

pub loop-i-init : goal.loop-i-init
loop-i-init c = (refl, sym (rows_none _ _ _ _ _))

pub loop-i-preserved : goal.loop-i-preserved
loop-i-preserved c = let args = c.args in (
  c.add_row.auto.dst ∙ c.loop-i.invariant.0,
  c.add_row.ensures
      ∙ (λ t. row_added args.part (c.sums.ensures t) (args.at + c.loop-i.i * 16) (c.loop-i.invariant.1 t))
      ∙ rows_turn args.part args.fa.now args.fb.now args.at args.dst.now c.loop-i.i,
)
