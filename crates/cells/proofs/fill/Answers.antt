-- `cells::fill` meets its contract: before number x all of the stretch is filled. Assumes nothing.
use mathlib.Core.Path.{refl}
use native.Mathlib.Omega.{arith}
use Rattle.cells.proofs.Parts.{around_length, around_start, around_on, around_end}
use Rattle.cells.proofs.fill.Goals as goal

pub loop-x-init : goal.loop-x-init
loop-x-init c = around_start _ _ _ _ _ _ _ c.requires c.cut_in-from.ensures c.cut_in-to.ensures

pub loop-x-preserved : goal.loop-x-preserved
loop-x-preserved c =
    let long = around_length c.args.part (λ _. c.args.value) c.args.file.now _ _ _ _ c.requires c.cut_in-from.ensures c.cut_in-to.ensures in
    around_on _ _ _ _ _ _ _ c.requires c.cut_in-from.ensures c.cut_in-to.ensures _ _ _ _ c.loop-x.invariant (omega arith) (omega arith) refl c.with_part.ensures

pub returns : goal.returns
returns c =
    let long = around_length c.args.part (λ _. c.args.value) c.args.file.now _ _ _ _ c.requires c.cut_in-from.ensures c.cut_in-to.ensures in
    around_end _ _ _ _ _ _ _ c.requires c.cut_in-from.ensures c.cut_in-to.ensures _ _ c.loop-x.invariant (omega arith)
