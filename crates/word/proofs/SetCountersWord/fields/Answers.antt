-- `word::SetCountersWord::fields` meets its contract. Assumes nothing.
use Rattle.word.proofs.SetCountersWord.fields.Goals as goal

pub returns : goal.returns
returns c = simp (c.which_of-which.ensures, c.clear_of-clear.ensures)
