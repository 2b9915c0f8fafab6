-- `word::LegacyWord::fields` meets its contract. Assumes nothing.
use Rattle.word.proofs.LegacyWord.fields.Goals as goal

pub returns : goal.returns
returns c = simp c.clear_of-clear.ensures
