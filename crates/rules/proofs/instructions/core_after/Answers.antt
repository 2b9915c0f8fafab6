-- `rules::instructions::core_after` meets its contract. Assumes nothing.
use Rattle.rules.proofs.ByCore.{after_parts}
use Rattle.rules.proofs.instructions.core_after.Goals as goal

pub returns : goal.returns
returns c = λ s slot. let a = c.args in after_parts a.k s a.thread a.f slot c.own_at-x.ensures c.own_after-own.ensures c.clear_by-clear.ensures c.last_after-last.ensures c.core_with.ensures
