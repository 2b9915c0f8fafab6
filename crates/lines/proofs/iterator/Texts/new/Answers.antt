-- `Texts::new` meets its contract. Assumes nothing.
use Rattle.lines.specs.Left.{texts_left}
use Rattle.lines.proofs.Left.{all_texts}
use Rattle.lines.proofs.iterator.Texts.new.Goals as goal

pub returns : goal.returns
unfolding texts_left
returns c a b = all_texts a b _ _ _ _ _ c.start.ensures
