-- `job::fields::job_width` meets its contract: the settings' format and flags are bytes 3 and 4. Assumes nothing.
use native.Mathlib.Nat.{div-one}
use mathlib.Core.Path.{◌≡◌, ◌∙◌}
use mathlib.Core.List.{List}
use Prim.Native.Nat.{ℕ, ◌/◌, ◌%◌}
use lib.Dec.{eqb}
use lib.ListN.{get_or}
use lib.Seq.{get_or-drop}
use Rattle.control.specs.Record.{width_from}
use Rattle.job.proofs.Answered.{width_answered}
use Rattle.job.specs.Fields.{job_width}
use Rattle.job.proofs.fields.job_width.Goals as goal

width-by : (job : List ℕ) (format flags : ℕ) → format ≡ get_or job 3 0 → flags ≡ get_or job 4 0 → width_from format (eqb (flags % 2) 1) (eqb (flags / 2 % 2) 1) (eqb (flags / 4 % 2) 1) ≡ job_width job
unfolding job_width
width-by job format flags e f = simp (e, f, get_or-drop, div-one)

pub returns : goal.returns
returns c = let job = c.args.job.now in
    width_answered job _ (c.width_from.ensures ∙ width-by job _ _ c.byte_at.ensures.0 c.byte_at-flags.ensures.0)
