-- `precheck::marking::unset_cleared` meets its contract: the marks are looked at only where a file is cleared. Assumes nothing.
use Rattle.cells.proofs.Cells.{both_off}
use Rattle.precheck.specs.Marks.{marks}
use Rattle.precheck.proofs.ByClass.{cleared, given_off}
use Rattle.precheck.proofs.marking.unset_cleared.Goals as goal

pub returns-then-clear : goal.returns-then-clear
returns-then-clear c = let args = c.args in
    λ d r. cleared (marks args.srca.now args.srcb.now d r) _ c.unset_given.ensures c.unset_given-then-clear.ensures

pub returns-else-clear : goal.returns-else-clear
returns-else-clear c = let args = c.args in
    let off = both_off args.clear.a args.clear.b c.if-clear.false in
    λ d r. cleared (marks args.srca.now args.srcb.now d r) _ (given_off args.k.a args.k.settings.keep.a off.0 _) (given_off args.k.b args.k.settings.keep.b off.1 _)
