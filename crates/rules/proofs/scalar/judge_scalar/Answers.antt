-- `rules::scalar::judge_scalar` meets its contract. Assumes nothing.
use mathlib.Core.Path.{ap, ◌∙◌}
use Prim.Native.Nat.{ℕ}
use lib.Dec.{leb}
use Rattle.word.specs.declared.Scalar.{Scalar}
use Rattle.rules.specs.Scalar.{scalar_modes}
use Rattle.word.specs.declared.Refusal.TheVariants.{UndefinedMode}
use Rattle.rules.proofs.Reading.{one_told}
use Rattle.rules.proofs.scalar.judge_scalar.Goals as goal

pub returns : goal.returns
returns c = one_told UndefinedMode c.refused_if.ensures.verdict (ap (λ (n : ℕ). leb n c.fields-s.result.mode) c.scalar_modes.ensures ∙ ap (λ (s : Scalar). leb (scalar_modes s.op) s.mode) c.fields-s.ensures)
