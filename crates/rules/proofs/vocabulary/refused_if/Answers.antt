-- `rules::vocabulary::refused_if` meets its contract. Assumes nothing.
use mathlib.Core.List.{[], ◌∷◌}
use Rattle.rules.specs.Rules.{◌when◌, lowest}
use Rattle.rules.proofs.Reading.{lowest_told}
use Rattle.rules.proofs.vocabulary.refused_if.Goals as goal

pub returns-then-bad : goal.returns-then-bad
unfolding lowest
returns-then-bad c = let a = c.args in lowest_told ((a.refusal when a.bad) ∷ []) (simp c.if-bad.true)

pub returns : goal.returns
unfolding lowest
returns c = let a = c.args in lowest_told ((a.refusal when a.bad) ∷ []) (simp c.if-bad.false)
