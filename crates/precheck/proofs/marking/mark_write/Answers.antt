-- `precheck::marking::mark_write` meets its contract. Assumes nothing.
use Rattle.precheck.specs.Marks.{mark_dst, mark_register}
use Rattle.precheck.proofs.marking.mark_write.Goals as goal

pub returns-in-LoadDst : goal.returns-in-LoadDst
unfolding mark_dst
returns-in-LoadDst c = λ s. simp (c.mark_span.ensures, c.in-LoadDst.is)

pub returns-in-LoadRegister : goal.returns-in-LoadRegister
unfolding mark_register
returns-in-LoadRegister c = λ s. simp (c.set_one.ensures, c.register_at.ensures, c.in-LoadRegister.is)

pub returns-in-ZeroRows : goal.returns-in-ZeroRows
unfolding mark_dst
returns-in-ZeroRows c = λ s. simp (c.mark_span-in-ZeroRows.ensures, c.in-ZeroRows.is)
