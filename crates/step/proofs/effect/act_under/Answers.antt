-- `step::effect::act_under` meets its contract. Assumes nothing.
use Rattle.step.proofs.Acting.{multiply_acts, shift_a_acts, shift_b_acts, whole_acts}
use Rattle.step.specs.ZeroSrc.{zero_src_effect}
use Rattle.step.specs.Scalar.{scalar_effect}
use Rattle.step.specs.Inside.{inside}
use Rattle.step.specs.Effect.{effect_of}
use Rattle.word.specs.declared.ZeroSrc.{ZeroSrc}
use Rattle.word.specs.declared.Scalar.{Scalar}
use Rattle.control.specs.Halves.{joined}
use Rattle.cells.specs.State.{state}
use mathlib.Core.Path.{refl, ap, ◌∙◌}
use Rattle.step.proofs.effect.act_under.Goals as goal

pub returns-in-Multiply : goal.returns-in-Multiply
returns-in-Multiply c = λ s. let a = c.args in multiply_acts (joined a.k.now s) a.thread a.srca.now a.srcb.now a.dst.now a.registers.now a.f _ c.in-Multiply.is (rw c.fields.ensures at (c.multiply.ensures s))

pub returns-in-Legacy : goal.returns-in-Legacy
unfolding inside effect_of
returns-in-Legacy c = λ s. let a = c.args in whole_acts (joined a.k.now s) a.thread _ a.f _ c.in-Legacy.is refl refl

pub returns-in-SetCounters : goal.returns-in-SetCounters
unfolding inside effect_of
returns-in-SetCounters c = λ s. let a = c.args in whole_acts (joined a.k.now s) a.thread _ a.f _ c.in-SetCounters.is refl refl

pub returns-in-AddCounters : goal.returns-in-AddCounters
unfolding inside effect_of
returns-in-AddCounters c = λ s. let a = c.args in whole_acts (joined a.k.now s) a.thread _ a.f _ c.in-AddCounters.is refl refl

pub returns-in-ZeroSrc : goal.returns-in-ZeroSrc
unfolding inside effect_of
returns-in-ZeroSrc c = λ s. let a = c.args in
    let l = state a.srca.now a.srcb.now a.dst.now a.registers.now in
    whole_acts (joined a.k.now s) a.thread l a.f _ c.in-ZeroSrc.is refl
    ((λ i. state ((c.zero_src.ensures s).0 i) ((c.zero_src.ensures s).1 i) a.dst.now a.registers.now) ∙ ap (λ (z : ZeroSrc). zero_src_effect (joined a.k.now s) z l) c.fields-in-ZeroSrc.ensures)

pub returns-in-ShiftA : goal.returns-in-ShiftA
returns-in-ShiftA c = λ s. let a = c.args in shift_a_acts (joined a.k.now s) a.thread a.srca.now a.srcb.now a.dst.now a.registers.now a.f _ c.in-ShiftA.is (rw c.mode.ensures at (c.shift_a.ensures s))

pub returns-in-ShiftB : goal.returns-in-ShiftB
returns-in-ShiftB c = λ s. let a = c.args in shift_b_acts (joined a.k.now s) a.thread a.srca.now a.srcb.now a.dst.now a.registers.now a.f _ c.in-ShiftB.is (rw c.fields-in-ShiftB.ensures at (c.shift_b.ensures s))

pub returns-in-NoEffect : goal.returns-in-NoEffect
unfolding inside effect_of
returns-in-NoEffect c = λ s. let a = c.args in whole_acts (joined a.k.now s) a.thread _ a.f _ c.in-NoEffect.is refl refl

pub returns-in-Scalar : goal.returns-in-Scalar
unfolding inside effect_of
returns-in-Scalar c = λ s. let a = c.args in
    let l = state a.srca.now a.srcb.now a.dst.now a.registers.now in
    whole_acts (joined a.k.now s) a.thread l a.f _ c.in-Scalar.is refl
    ((λ i. state a.srca.now a.srcb.now a.dst.now (c.scalar_unit.ensures i)) ∙ ap (λ (x : Scalar). scalar_effect a.thread x l) c.fields-in-Scalar.ensures)
