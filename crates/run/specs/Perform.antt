-- Document 01, "The job": what a field does to the lent numbers and to the control record. An instruction acts through the single step, which
-- gives both; the record after any other field is `field_control`'s. Definitions only.
use Rattle.std.specs.Prelude.{List, ℕ, Result, Ok, Err}
use Rattle.cells.specs.declared.Width.TheVariants.{Bits32}
use Rattle.cells.specs.Cells.{over, in_span}
use Rattle.cells.specs.Places.{over_rows_at}
use Rattle.control.specs.declared.Control.{Control}
use Rattle.cells.specs.Layout.{one_register}
use Rattle.cells.specs.State.{State, with_dst, with_registers, src_file, with_src_file}
use Rattle.step.specs.Step.{stepped_of, state_of}
use Rattle.job.specs.declared.Cause.{Cause}
use Rattle.job.specs.Kinds.{register_value}
use Rattle.job.specs.Loading.{loaded}
use Rattle.job.specs.Fields.{payload_at}
use Rattle.job.specs.declared.Write.{Write}
use Rattle.job.specs.declared.Write.TheVariants.{LoadSrc, LoadDst, LoadRegister, ZeroRows}
use Rattle.job.specs.declared.Kind.{Kind}
use Rattle.job.specs.declared.Kind.TheVariants as kind
use Rattle.walk.specs.FieldRecord.{field_control, loaded_rows}

-- what a load or zeroing with payload p writes
unfoldable pub written : List ℕ → Control → Write → State → State
written p c (LoadSrc file rows) s = with_src_file s file (loaded Bits32 p (loaded_rows c file rows) (src_file s file))
written p c (LoadDst w rows) s = with_dst s (loaded w p rows s.dst)
written p c (LoadRegister t r) s = with_registers s (over (in_span (one_register t r)) (λ i. register_value p) s.registers)
written p c (ZeroRows w rows) s = with_dst s (over_rows_at w rows (λ i. 0) s.dst)

-- what a field does to the numbers: an instruction steps, loads and zeroing write, the others change none
unfoldable pub performed : List ℕ → Control → ℕ → Result Kind Cause → State → State
performed job c place (Ok kind.Settings) s = s
performed job c place (Ok (kind.Issue t w)) s = state_of c t w s
performed job c place (Ok (kind.HandOver file)) s = s
performed job c place (Ok (kind.Writes x)) s = written (payload_at job place) c x s
performed job c place (Ok (kind.Prints o)) s = s
performed job c place (Err x) s = s

-- the record after a field: after an instruction, the one that the single step gives back
unfoldable pub control_on : List ℕ → Control → ℕ → Result Kind Cause → State → Control
control_on job c place (Ok kind.Settings) s = field_control job c place (Ok kind.Settings)
control_on job c place (Ok (kind.Issue t w)) s = (stepped_of c t w s).control
control_on job c place (Ok (kind.HandOver file)) s = field_control job c place (Ok (kind.HandOver file))
control_on job c place (Ok (kind.Writes x)) s = field_control job c place (Ok (kind.Writes x))
control_on job c place (Ok (kind.Prints o)) s = field_control job c place (Ok (kind.Prints o))
control_on job c place (Err x) s = field_control job c place (Err x)
