-- `job::fields::read_field` meets its contract: tag by tag. Assumes nothing.
use Rattle.job.specs.Kinds.{read_kind}
use native.Mathlib.Omega.{arith}
use Rattle.std.proofs.lemmas.Grind.{common_steps}
use Rattle.job.proofs.fields.read_field.Goals as goal

pub returns-in-1 : goal.returns-in-1
unfolding read_kind
returns-in-1 c = simp (c.in-1.is, c.read_settings.ensures)

pub returns-in-2 : goal.returns-in-2
unfolding read_kind
returns-in-2 c = simp (c.in-2.is, c.read_load_rows.ensures, c.job_width.ensures.width)

pub returns-in-3 : goal.returns-in-3
unfolding read_kind
returns-in-3 c = simp (c.in-3.is, c.read_load_register.ensures)

pub returns-in-4 : goal.returns-in-4
unfolding read_kind
returns-in-4 c = simp (c.in-4.is, c.read_hand_over.ensures)

pub returns-in-5 : goal.returns-in-5
unfolding read_kind
returns-in-5 c = simp (c.in-5.is, c.read_issue.ensures)

pub returns-in-6 : goal.returns-in-6
unfolding read_kind
returns-in-6 c = simp (c.in-6.is, c.read_output_rows.ensures, c.job_width-in-6.ensures.width)

pub returns-in-7 : goal.returns-in-7
unfolding read_kind
returns-in-7 c = simp (c.in-7.is, c.read_output_register.ensures)

pub returns-in-8 : goal.returns-in-8
unfolding read_kind
returns-in-8 c = simp (c.in-8.is, c.read_zero_rows.ensures, c.job_width-in-8.ensures.width)

pub returns-in_default : goal.returns-in_default
unfolding read_kind
returns-in_default c = grind (arith, common_steps)
