-- `rules::legacy::judge_legacy` meets its contract. Assumes nothing.
use mathlib.Core.Path.{ap}
use mathlib.Core.Bool.{not}
use Rattle.word.specs.declared.Refusal.TheVariants.{BankOwner}
use Rattle.rules.proofs.Reading.{one_told}
use Rattle.rules.proofs.legacy.judge_legacy.Goals as goal

pub returns : goal.returns
returns c = record {
  verdict = λ s. (one_told BankOwner c.refused_if.ensures.verdict (ap not (c.both_owned.ensures s))).verdict;
  number = λ s. (one_told BankOwner c.refused_if.ensures.verdict (ap not (c.both_owned.ensures s))).number;
}
