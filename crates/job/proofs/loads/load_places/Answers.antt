-- `job::loads::load_places` meets its contract: the parts of the width are loaded one after the other. Assumes nothing.
use Rattle.cells.proofs.Parts.{by_whole, by_halves}
use Rattle.job.proofs.loads.load_places.Goals as goal

pub returns-in-Bits32 : goal.returns-in-Bits32
returns-in-Bits32 c = let a = c.args in by_whole a.width a.lo a.hi _ a.file.now _ c.in-Bits32.is c.load_part.ensures

pub returns-in-Bits16 : goal.returns-in-Bits16
returns-in-Bits16 c = let a = c.args in
    by_halves a.width a.lo a.hi _ a.file.now _ c.in-Bits16.is _ c.load_part-in-Bits16.ensures c.load_part-in-Bits16-2.ensures
