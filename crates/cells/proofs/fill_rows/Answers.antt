-- `cells::fill_rows` meets its contract: its rows are a stretch of places. Assumes nothing.
use Rattle.cells.proofs.Places.{rows_at}
use mathlib.Core.Path.{◌∙◌}
use Rattle.cells.proofs.fill_rows.Goals as goal

pub returns : goal.returns
returns c = let a = c.args in rw c.row_start-lo.ensures at c.fill_places.ensures ∙ rows_at a.width a.rows.first a.rows.count _ a.file.now
