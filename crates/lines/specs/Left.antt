-- What is left to print, as the bytes of each text. Definitions only.
use Rattle.std.specs.Prelude.{List, [], ℕ, map}
use Rattle.cells.specs.State.{state}
use Rattle.lines.specs.Printed.{printed_text}
use Rattle.lines.specs.Cursor.{printed_from}
use Rattle.lines.specs.declared.iterator.Texts.{Texts}

-- nothing that is printed turns on SrcA and SrcB
unfoldable pub texts_left : Texts → List (List ℕ)
texts_left s = map printed_text (printed_from s.job.now s.outcome s.cursor (state [] [] s.dst.now s.registers.now))
