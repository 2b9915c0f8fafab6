-- Document 01, "The job", "Set and unset" and "Numbers given back": which rules 2 to 8 a field breaks, judged on the control record and the
-- marks and on no lent number. Definitions only.
use Rattle.std.specs.Prelude.{Bool, not, List, [], ◌∷◌, ◌++◌, ℕ, Result, Ok, Err}
use Rattle.cells.specs.declared.layout.File.{File}
use Rattle.cells.specs.Layout.{one_register}
use Rattle.word.specs.Word.{word_operands}
use Rattle.word.specs.declared.Refusal.TheVariants.{BankOwner, UnsetRead}
use Rattle.control.specs.declared.Control.{Control}
use Rattle.control.specs.Record.{matrix_owns_next}
use Rattle.rules.specs.Rules.{Judged, ◌when◌, rules}
use Rattle.rules.specs.Access.{reads_of}
use Rattle.job.specs.declared.Cause.{Cause}
use Rattle.job.specs.declared.Write.{Write}
use Rattle.job.specs.declared.Write.TheVariants.{LoadSrc, LoadDst, LoadRegister, ZeroRows}
use Rattle.job.specs.declared.Output.{Output}
use Rattle.job.specs.declared.Output.TheVariants.{Rows, Register}
use Rattle.job.specs.declared.Kind.{Kind}
use Rattle.job.specs.declared.Kind.TheVariants as kind
use Rattle.walk.specs.FieldRecord.{banks_of}
use Rattle.precheck.specs.Marks.{Marks, all_set, reads_set}

-- 6 for a Src load and a hand over: the unpackers' bank must be the unpackers'
abbrev pub unpackers_bank : Control → File → List Judged
unpackers_bank c file = (BankOwner when matrix_owns_next (banks_of c file)) ∷ []

abbrev pub write_rules : Control → Write → List Judged
write_rules c (LoadSrc file rows) = unpackers_bank c file
write_rules c (LoadDst w rows) = []
write_rules c (LoadRegister t r) = []
write_rules c (ZeroRows w rows) = []

-- 8 for an output: it reads its rows or its register
abbrev pub output_rules : Marks → Output → List Judged
output_rules m (Rows w rows) = (UnsetRead when not (all_set m.dst rows)) ∷ []
output_rules m (Register t r) = (UnsetRead when not (all_set m.registers (one_register t r))) ∷ []

-- 8 for an instruction: an unset row or register is read; judged by the operands of the word, whether or not an unnamed bit is 1
abbrev pub unset_read : Control → Marks → ℕ → ℕ → Bool
unset_read c m t w = not (reads_set m (reads_of c t (word_operands w)))

-- the rules that a field may break, in the order in which they are judged
unfoldable pub field_rules : Control → Marks → Result Kind Cause → List Judged
field_rules c m (Ok kind.Settings) = []
field_rules c m (Ok (kind.Issue t w)) = rules c t w ++ ((UnsetRead when unset_read c m t w) ∷ [])
field_rules c m (Ok (kind.HandOver file)) = unpackers_bank c file
field_rules c m (Ok (kind.Writes x)) = write_rules c x
field_rules c m (Ok (kind.Prints o)) = output_rules m o
field_rules c m (Err x) = []
