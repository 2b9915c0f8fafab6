-- `capi::vintrazzola_step` meets its contract: by what the step on the record gave. Assumes nothing.
use mathlib.Core.Path.{sym, ap, ◌∙◌}
use Rattle.step.specs.Step.{stopped_answer}
use Rattle.capi.specs.Packed.{packed}
use Rattle.capi.proofs.Steps.{did}
use Rattle.capi.proofs.vintrazzola_step.Goals as goal

pub returns-in-Err : goal.returns-in-Err
returns-in-Err c =
    let a = c.args in
    let g = did a.numbers.now a.thread a.word _ c.read-before.ensures c.thread_byte.ensures c.step-stepped.ensures.after c.step-stepped.ensures.left in
    (rw c.at.ensures at c.pack_refusal.ensures ∙ ap packed (sym (ap stopped_answer c.in-Err.is) ∙ g.answer), g.state, g.refused _ c.in-Err.is)

pub returns-in-Ok : goal.returns-in-Ok
returns-in-Ok c =
    let a = c.args in
    let g = did a.numbers.now a.thread a.word _ c.read-before.ensures c.thread_byte.ensures c.step-stepped.ensures.after c.step-stepped.ensures.left in
    (ap packed (sym (ap stopped_answer c.in-Ok.is) ∙ g.answer), g.state, c.write_but_slots.ensures ∙ g.done _ c.in-Ok.is)
