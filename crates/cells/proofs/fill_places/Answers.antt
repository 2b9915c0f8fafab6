-- `cells::fill_places` meets its contract: the parts of its width are filled one after the other. Assumes nothing.
use Rattle.cells.proofs.Parts.{by_whole, by_halves}
use Rattle.cells.proofs.Places.{at_between_none}
use mathlib.Core.Path.{sym}
use Rattle.cells.proofs.fill_places.Goals as goal

pub returns-then-hi-lo : goal.returns-then-hi-lo
returns-then-hi-lo c = let a = c.args in sym (at_between_none a.width _ a.file.now a.lo a.hi c.if-hi-lo.true)

pub returns-in-Bits32 : goal.returns-in-Bits32
returns-in-Bits32 c = let a = c.args in by_whole a.width a.lo a.hi _ a.file.now _ c.in-Bits32.is c.fill.ensures

pub returns-in-Bits16 : goal.returns-in-Bits16
returns-in-Bits16 c = let a = c.args in
    by_halves a.width a.lo a.hi _ a.file.now _ c.in-Bits16.is _ c.fill-in-Bits16.ensures c.fill-in-Bits16-2.ensures
