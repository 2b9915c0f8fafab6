-- Document 01, "Set and unset": the marks after a field: loads and zeroing set, an instruction sets and its clear unsets. Definitions only.
use Rattle.std.specs.Prelude.{Result, Ok, Err}
use Rattle.cells.specs.Layout.{one_register}
use Rattle.control.specs.declared.Control.{Control}
use Rattle.rules.specs.Access.{word_sets, word_unsets}
use Rattle.job.specs.declared.Cause.{Cause}
use Rattle.job.specs.declared.Write.{Write}
use Rattle.job.specs.declared.Write.TheVariants.{LoadSrc, LoadDst, LoadRegister, ZeroRows}
use Rattle.job.specs.declared.Kind.{Kind}
use Rattle.job.specs.declared.Kind.TheVariants as kind
use Rattle.walk.specs.FieldRecord.{loaded_rows}
use Rattle.precheck.specs.Marks.{Marks, mark_src, mark_dst, mark_register, instruction_marks}

abbrev pub write_marks : Control → Marks → Write → Marks
write_marks c m (LoadSrc file rows) = mark_src m file (loaded_rows c file rows)
write_marks c m (LoadDst w rows) = mark_dst m rows
write_marks c m (LoadRegister t r) = mark_register m (one_register t r)
write_marks c m (ZeroRows w rows) = mark_dst m rows

unfoldable pub field_marks : Control → Marks → Result Kind Cause → Marks
field_marks c m (Ok kind.Settings) = m
field_marks c m (Ok (kind.Issue t w)) = instruction_marks m (word_sets c t w) (word_unsets c w)
field_marks c m (Ok (kind.HandOver file)) = m
field_marks c m (Ok (kind.Writes x)) = write_marks c m x
field_marks c m (Ok (kind.Prints o)) = m
field_marks c m (Err x) = m
