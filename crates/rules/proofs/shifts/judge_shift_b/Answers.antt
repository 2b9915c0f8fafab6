-- `rules::shifts::judge_shift_b` meets its contract. Assumes nothing.
use mathlib.Core.Path.{ap}
use mathlib.Core.Bool.{not}
use Rattle.word.specs.declared.Refusal.TheVariants.{BankOwner}
use Rattle.rules.proofs.Reading.{one_told}
use Rattle.rules.proofs.shifts.judge_shift_b.Goals as goal

pub returns : goal.returns
returns c = one_told BankOwner c.refused_if.ensures.verdict (ap not c.matrix_owns.ensures)
