-- `rules::shifts::shifted_b` meets its contract. Assumes nothing.
use Rattle.rules.proofs.ByCore.{shifted_by}
use Rattle.rules.specs.Shifts.{shifted_b}
use Rattle.control.specs.Halves.{joined}
use native.Mathlib.Nat.{mod-add-mod}
use Rattle.rules.proofs.shifts.shifted_b.Goals as goal

pub returns : goal.returns
unfolding joined shifted_b
returns c = λ s. let a = c.args in simp (mod-add-mod, shifted_by a.k s a.thread c.own_at-x.ensures a.f.row)
