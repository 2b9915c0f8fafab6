-- `step::effect::perform` meets its contract. Assumes nothing.
use Rattle.word.proofs.Passing.{passed_on}
use Rattle.step.proofs.Acting.{refused_leaves}
use Rattle.step.specs.Inside.{acted}
use Rattle.control.specs.Halves.{joined}
use Rattle.cells.specs.State.{state}
use Rattle.rules.specs.Rules.{verdict_answer}
use mathlib.Core.Path.{sym, ap, ◌∙◌}
use Rattle.step.proofs.effect.perform.Goals as goal

pub returns-in_err-judge_operands : goal.returns-in_err-judge_operands
returns-in_err-judge_operands c = let a = c.args in
    let l = state a.srca.now a.srcb.now a.dst.now a.registers.now in
    let e = passed_on c.from_residual.result _ c.from_residual.ensures.1 in
    let same = e ∙ sym c.in_err-judge_operands.was in
    record {
      verdict = λ s. same ∙ c.judge_operands.ensures.verdict s;
      left = λ s. refused_leaves _ _ e (acted (joined a.k s) a.thread a.f l) l;
      number = λ s. ap verdict_answer same ∙ c.judge_operands.ensures.number s;
    }

pub returns : goal.returns
returns c =
    record {
      verdict = λ s. sym c.in_ok-judge_operands.was ∙ c.judge_operands.ensures.verdict s;
      left = c.act.ensures;
      number = λ s. ap verdict_answer (sym c.in_ok-judge_operands.was) ∙ c.judge_operands.ensures.number s;
    }
