-- `rules::vocabulary::no_reads` meets its contract. Assumes nothing.
use Rattle.rules.proofs.vocabulary.no_reads.Goals as goal

pub returns : goal.returns
returns c = simp c.no_span-n.ensures
