-- `precheck::judging::judge_bank` meets its contract. Assumes nothing.
use Rattle.rules.specs.Rules.{lowest}
use Rattle.precheck.proofs.judging.judge_bank.Goals as goal

pub returns : goal.returns
unfolding lowest
returns c = λ s. simp (c.refused_if.ensures.verdict, c.matrix_owns_next.ensures, c.banks_of-banks.ensures s)
