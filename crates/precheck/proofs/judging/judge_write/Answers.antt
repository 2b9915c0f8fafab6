-- `precheck::judging::judge_write` meets its contract. Assumes nothing.
use Rattle.rules.specs.Rules.{lowest}
use Rattle.precheck.proofs.judging.judge_write.Goals as goal

pub returns-in-LoadDst : goal.returns-in-LoadDst
unfolding lowest
returns-in-LoadDst c = λ s. simp c.in-LoadDst.is

pub returns-in-LoadRegister : goal.returns-in-LoadRegister
unfolding lowest
returns-in-LoadRegister c = λ s. simp c.in-LoadRegister.is

pub returns-in-ZeroRows : goal.returns-in-ZeroRows
unfolding lowest
returns-in-ZeroRows c = λ s. simp c.in-ZeroRows.is
