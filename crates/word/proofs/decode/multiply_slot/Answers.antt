-- `word::decode::multiply_slot` meets its contract. Assumes nothing.
use Rattle.word.proofs.decode.multiply_slot.Goals as goal

pub returns-in-Eight : goal.returns-in-Eight
returns-in-Eight c = simp c.in-Eight.is

pub returns-in-Four : goal.returns-in-Four
returns-in-Four c = simp c.in-Four.is
