-- The next text of an iterator is the first of what it has left. Assumes nothing.
use Rattle.std.proofs.Common.{arith, rules, [], ap, length, map}
use Rattle.lines.specs.Left.{texts_left}
use Rattle.lines.specs.Printed.{printed_text}
use Rattle.lines.proofs.Left.{text_first}
use Rattle.lines.proofs.iterator.TextsIterator.next.Goals as goal

pub returns-in_err-found-clause-steps : goal.returns-in_err-found-clause-steps
unfolding texts_left
returns-in_err-found-clause-steps c =
    let gone = ap (map printed_text) (c.in_err-found.ensures.given [] []) in
    rw c.from_residual.ensures (gone, gone)

pub returns-clause-steps : goal.returns-clause-steps
unfolding texts_left
returns-clause-steps c = text_first _ _ _ _ _ (c.in_ok-found.ensures.given [] [])

pub returns-clause-goes : goal.returns-clause-goes
unfolding texts_left
returns-clause-goes c =
    let fewer = ap length (text_first _ _ _ _ _ (c.in_ok-found.ensures.given [] [])) in
    record { on = λ _. (search rules, search rules, omega (arith, fewer)); keeps = search rules; rests = search rules }
