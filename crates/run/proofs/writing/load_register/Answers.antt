-- `run::writing::load_register` meets its contract. Assumes nothing.
use mathlib.Core.Path.{◌∙◌}
use lib.ListN.{set}
use Rattle.cells.proofs.Cells.{set_one, one_past}
use Rattle.cells.specs.Layout.{register}
use Rattle.job.specs.Kinds.{register_value}
use Rattle.run.proofs.writing.load_register.Goals as goal

pub returns-then-registers-i : goal.returns-then-registers-i
returns-then-registers-i c = let a = c.args in one_past 0 (λ i. register_value a.payload.now) a.registers.now (register a.thread a.r) (rw c.register_at-i.ensures at c.if-registers-i.true)

pub returns : goal.returns
returns c = let a = c.args in (λ i. set a.registers.now (c.register_at-i.ensures i) (c.register_value.ensures i)) ∙ set_one 0 (register_value a.payload.now) a.registers.now (register a.thread a.r) (rw c.register_at-i.ensures at c.if-registers-i.false)
