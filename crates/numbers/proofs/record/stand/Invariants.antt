-- `numbers::record::stand` meets its contract: before place i each number was compared. Assumes nothing.
use Rattle.numbers.specs.Record.{number_from}
use Rattle.numbers.proofs.Parts.{Same}
use Rattle.numbers.proofs.record.stand.Given as goal

abbrev pub invariant-loop-i : goal.invariant-loop-i
invariant-loop-i l = Same l.fn.b (number_from l.fn.part) (number_from l.fn.n) l.same l.i
