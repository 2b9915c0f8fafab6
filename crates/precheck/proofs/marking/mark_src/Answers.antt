-- `precheck::marking::mark_src` meets its contract. Assumes nothing.
use Rattle.precheck.specs.Marks.{mark_src}
use Rattle.precheck.proofs.marking.mark_src.Goals as goal

pub returns-in-A : goal.returns-in-A
unfolding mark_src
returns-in-A c = λ s d r. simp (c.mark.ensures, c.first_loaded-lo.ensures.0 s, c.in-A.is)

pub returns-in-B : goal.returns-in-B
unfolding mark_src
returns-in-B c = λ s d r. simp (c.mark-in-B.ensures, c.first_loaded-lo.ensures.0 s, c.in-B.is)
