-- `precheck::check_fields` meets its contract: the marks that the walk begins with are those of the job's width. Assumes nothing.
use mathlib.Core.Path.{sym, ◌∙◌}
use Rattle.precheck.specs.Marks.{unset}
use Rattle.precheck.proofs.check_fields.Goals as goal

pub returns-in-Bits32 : goal.returns-in-Bits32
unfolding unset
returns-in-Bits32 c = c.check_from.ensures ∙ rw (sym c.job_width-width.ensures.width ∙ c.in-Bits32.is)

pub returns-in-Bits16 : goal.returns-in-Bits16
unfolding unset
returns-in-Bits16 c = c.check_from-in-Bits16.ensures ∙ rw (sym c.job_width-width.ensures.width ∙ c.in-Bits16.is)
