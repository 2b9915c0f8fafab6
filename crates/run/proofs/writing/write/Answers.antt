-- `run::writing::write` meets its contract. Assumes nothing.
use Rattle.run.specs.Perform.{written}
use Rattle.cells.specs.State.{state}
use native.Mathlib.Nat.{zero-add}
use mathlib.Core.Path.{◌∙◌}
use Rattle.run.proofs.writing.write.Goals as goal

pub returns-in-LoadSrc : goal.returns-in-LoadSrc
unfolding written
returns-in-LoadSrc c = λ s. let a = c.args in c.load_src.ensures s a.dst.now a.registers.now ∙ simp c.in-LoadSrc.is

pub returns-in-LoadDst : goal.returns-in-LoadDst
unfolding written
returns-in-LoadDst c = λ s. let a = c.args in (λ i. state a.srca.now a.srcb.now (c.load_rows.ensures i) a.registers.now) ∙ simp (c.in-LoadDst.is, zero-add)

pub returns-in-LoadRegister : goal.returns-in-LoadRegister
unfolding written
returns-in-LoadRegister c = λ s. let a = c.args in (λ i. state a.srca.now a.srcb.now a.dst.now (c.load_register.ensures i)) ∙ simp c.in-LoadRegister.is

pub returns-in-ZeroRows : goal.returns-in-ZeroRows
unfolding written
returns-in-ZeroRows c = λ s. let a = c.args in (λ i. state a.srca.now a.srcb.now (c.fill_rows.ensures i) a.registers.now) ∙ simp c.in-ZeroRows.is
