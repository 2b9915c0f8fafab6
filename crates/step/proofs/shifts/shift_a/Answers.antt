-- `step::shifts::shift_a` meets its contract. Assumes nothing.
-- any address slots
use native.Mathlib.Omega.{arith}
use Rattle.step.proofs.Columns.{found_a, room_a, inside_a_lem, outside_a, shifted_right, shifted_left}
use Rattle.step.specs.Shifts.{shift_a}
use Rattle.control.specs.Halves.{Choice, choice_of, joined}
use Rattle.control.specs.Record.{start_thread}
use borrow.Author.Tests.{eq-eqb, ne_eqb}
use Prim.Native.Nat.{ℕ}
use mathlib.Core.Bool.{Bool, cond}
use mathlib.Core.Path.{sym, ap, ◌∙◌}
use Rattle.step.proofs.shifts.shift_a.Goals as goal

abbrev some : ℕ → Choice
some t = choice_of start_thread

pub overflow_add-hi-2 : goal.overflow_add-hi-2
overflow_add-hi-2 c = let e = c.row_start-lo.ensures in let f = c.row_start.ensures in omega (arith, c.gap_to-gap.ensures.1)

pub returns-then-srca-hi : goal.returns-then-srca-hi
unfolding joined
returns-then-srca-hi c = λ s. let a = c.args in
    let w = found_a (joined a.k s) (c.shifted_a-rows.ensures s) c.row_start-lo.ensures c.row_start.ensures c.gap_to-gap.ensures.0 in
    sym (ap (λ (b : Bool). cond b (shift_a (joined a.k s) a.mode a.srca.now) a.srca.now) (outside_a (joined a.k s) w c.if-srca-hi.true))

pub shift_right-requires : goal.shift_right-requires
unfolding joined
shift_right-requires c = let a = c.args in
    let r = room_a (joined a.k some) (found_a (joined a.k some) (c.shifted_a-rows.ensures some) c.row_start-lo.ensures c.row_start.ensures c.gap_to-gap.ensures.0) in
    (r.first, r.order, c.if-srca-hi.false)

pub shift_left-requires : goal.shift_left-requires
unfolding joined
shift_left-requires c = let a = c.args in
    let r = room_a (joined a.k some) (found_a (joined a.k some) (c.shifted_a-rows.ensures some) c.row_start-lo.ensures c.row_start.ensures c.gap_to-gap.ensures.0) in
    (r.end, r.order, c.if-srca-hi.false)

pub returns-then-mode-eq2 : goal.returns-then-mode-eq2
unfolding joined
returns-then-mode-eq2 c = λ s. let a = c.args in
    let w = found_a (joined a.k s) (c.shifted_a-rows.ensures s) c.row_start-lo.ensures c.row_start.ensures c.gap_to-gap.ensures.0 in
    c.shift_right.ensures ∙ shifted_right (joined a.k s) a.mode a.srca.now w (eq-eqb _ _ c.if-mode-eq2.true)
    ∙ sym (ap (λ (b : Bool). cond b (shift_a (joined a.k s) a.mode a.srca.now) a.srca.now) (inside_a_lem (joined a.k s) w c.if-srca-hi.false))

pub returns-else-mode-eq2 : goal.returns-else-mode-eq2
unfolding joined
returns-else-mode-eq2 c = λ s. let a = c.args in
    let w = found_a (joined a.k s) (c.shifted_a-rows.ensures s) c.row_start-lo.ensures c.row_start.ensures c.gap_to-gap.ensures.0 in
    c.shift_left.ensures ∙ shifted_left (joined a.k s) a.mode a.srca.now w (ne_eqb _ _ c.if-mode-eq2.false)
    ∙ sym (ap (λ (b : Bool). cond b (shift_a (joined a.k s) a.mode a.srca.now) a.srca.now) (inside_a_lem (joined a.k s) w c.if-srca-hi.false))
