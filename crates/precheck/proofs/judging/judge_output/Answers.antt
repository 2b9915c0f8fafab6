-- `precheck::judging::judge_output` meets its contract. Assumes nothing.
use Rattle.rules.specs.Rules.{lowest}
use Rattle.precheck.proofs.ByClass.{one_set}
use Rattle.precheck.proofs.judging.judge_output.Goals as goal

pub returns-in-Rows : goal.returns-in-Rows
unfolding lowest
returns-in-Rows c = λ a b. simp (c.refused_if.ensures.verdict, c.all_set.ensures, c.in-Rows.is)

pub returns-in-Register : goal.returns-in-Register
unfolding lowest
returns-in-Register c = λ a b. simp (c.refused_if-in-Register.ensures.verdict, c.is_set.ensures, c.register_at.ensures, one_set c.args.registers.now, c.in-Register.is)
