-- ZEROSRC: document 01, "What each does", all but the numbers. Definitions only.
use Rattle.std.specs.Prelude.{Bool, cond}
use Rattle.cells.specs.declared.layout.Span.{Span}
use Rattle.cells.specs.Layout.{src_rows, span, no_span, bank_span}
use Rattle.word.specs.declared.ZeroSrc.{ZeroSrc}
use Rattle.control.specs.declared.Banks.{Banks}
use Rattle.control.specs.declared.Control.{Control}
use Rattle.rules.specs.Vocabulary.{Meaning, quiet, ◌·◌, setting, rows_set}

-- all of a chosen file: both banks, or the bank at the unpackers' pointer
abbrev pub filled_in : Banks → ZeroSrc → Span
filled_in b z = cond z.both (span 0 src_rows) (bank_span b.unpack)

-- and none of a file that is not chosen
abbrev pub filled_if : Bool → Banks → ZeroSrc → Span
filled_if chosen b z = cond chosen (filled_in b z) no_span

unfoldable pub filled_a : Control → ZeroSrc → Span
filled_a c z = filled_if z.a c.a z

unfoldable pub filled_b : Control → ZeroSrc → Span
filled_b c z = filled_if z.b c.b z

-- it sets the filled banks; owners don't matter
abbrev pub zero_src_meaning : ZeroSrc → Meaning
zero_src_meaning z = quiet · setting (λ c t. rows_set (filled_a c z) (filled_b c z))
