-- `step::scalar::scalar_unit` meets its contract. Assumes nothing.
use Rattle.step.specs.Scalar.{computed, scalar_result, scalar}
use Rattle.cells.proofs.Cells.{set_one, one_past}
use Rattle.cells.specs.Layout.{register}
use lib.ListN.{get_or, set}
use mathlib.Core.Path.{◌≡◌, ◌∙◌}
use Rattle.step.proofs.scalar.scalar_unit.Goals as goal

pub returns-else-k-registers : goal.returns-else-k-registers
unfolding scalar
returns-else-k-registers c = let a = c.args in let l = a.registers.now in one_past 0 (λ i. scalar_result a.thread a.s l) l (register a.thread a.s.result) (rw c.register_at-k.ensures at c.if-k-registers.false)

pub returns-then-k-registers : goal.returns-then-k-registers
unfolding scalar scalar_result
returns-then-k-registers c = let a = c.args in
    let l = a.registers.now in
    let x : c.value_at-x.result ≡ get_or l (register a.thread a.s.a) 0 = c.value_at-x.ensures ∙ (λ i. get_or l (c.register_at.ensures i) 0) in
    let v : c.compute.result ≡ scalar_result a.thread a.s l = c.compute.ensures ∙ (λ i. computed a.s.op a.s.mode (x i) (c.operand_b-y.ensures i)) in
    (λ i. set l (c.register_at-k.ensures i) (v i)) ∙ set_one 0 (scalar_result a.thread a.s l) l (register a.thread a.s.result) (rw c.register_at-k.ensures at c.if-k-registers.true)
