-- `walk::advance` meets its contract. Assumes nothing.
use mathlib.Core.Path.{sym, ◌∙◌}
use Rattle.control.specs.Halves.{joined}
use Rattle.rules.proofs.ByCore.{leaves}
use Rattle.job.specs.Settings.{choices_in}
use Rattle.walk.proofs.Advanced.{advanced}
use Rattle.walk.proofs.advance.Goals as goal

pub returns-else-not-leaves_record : goal.returns-else-not-leaves_record
returns-else-not-leaves_record c = let a = c.args in
    sym (leaves (joined a.k.now (choices_in a.fixed.now)) a.thread a.f (sym c.leaves_record.ensures ∙ c.if-not-leaves_record.false))

pub returns-then-not-leaves_record : goal.returns-then-not-leaves_record
returns-then-not-leaves_record c = let a = c.args in
    advanced a.k.now a.fixed.now a.thread a.f
    c.slot_number.ensures c.slot_at-slot.ensures c.own_at-x.ensures c.own_after-own.ensures c.clear_by-clear.ensures c.last_after-last.ensures c.set_core.ensures
