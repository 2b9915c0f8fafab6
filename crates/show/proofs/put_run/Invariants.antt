-- What was written and what is left are together all that is printed.
use Rattle.std.proofs.Common.{◌≡◌, ℕ, List, ◌++◌}
use Rattle.std.specs.Io.KnownBytes.{Appends}
use Rattle.lines.specs.Left.{texts_left}
use Rattle.show.proofs.Written.{joined}
use Rattle.show.proofs.put_run.Given as goal

abbrev pub invariant-loop-text : goal.invariant-loop-text
invariant-loop-text g l =
    (done : List ℕ)
    × Appends (g.W.Write.contents l.initial.out) (g.W.Write.contents l.out) done
    × (done ++ joined (texts_left l.text-iterator) ≡ joined (texts_left l.initial.text-iterator))
