-- `job::stages::find_shape` meets its contract: the first field, then the others. Assumes nothing.
use lib.ListN.{length}
use Prim.Native.Nat.{ℕ}
use native.Mathlib.Omega.{arith}
use Rattle.job.specs.Shape.{shape_from}
use Rattle.std.proofs.Common.{rules}
use Rattle.std.proofs.lemmas.Result.{err_from_is_err_and}
use Rattle.std.specs.Prelude.{Result, Ok, Err, MatchResult}
use Rattle.std.specs.Result.{IsErrAnd}
use mathlib.Core.List.{List}
use Rattle.job.specs.declared.Field.{Field}
use mathlib.Core.Path.{◌≡◌, refl, sym, ap, ◌∙◌}
use Rattle.job.proofs.Shaped.{shape_on, shape_wrong, shape_end, shape_long, shape_short}
use Rattle.job.proofs.Answered.{shape_answered}
use Rattle.job.proofs.stages.find_shape.Goals as goal

-- the error of a result is turned into another
module _ {S E D : Type 0} (Q : E → D → Type 0) where
  turned_ok : (x : Result S E) (r : Result S D) (s : S) → MatchResult x (λ y. r ≡ Ok y) (λ e. IsErrAnd r (Q e)) → r ≡ Ok s → x ≡ Ok s
  turned_ok (Ok y) r s h e = let q : ◌≡◌ {A = Result S D} (Ok y) (Ok s) = sym h ∙ e in let k : y ≡ s = cc in ap Ok k
  turned_ok (Err y) r s h e = absurd (rw e at h)

  turned_err : (x : Result S E) (r : Result S D) (d : D) → MatchResult x (λ y. r ≡ Ok y) (λ e. IsErrAnd r (Q e)) → r ≡ Err d → (e : E) × (x ≡ Err e) × Q e d
  turned_err (Ok y) r d h e = absurd (let z : ◌≡◌ {A = ℕ} 0 1 = cc in omega arith)
  turned_err (Err y) r d h e = (y, refl, rw e at h)

pub returns-then-n-gt-JOB_BYTES : goal.returns-then-n-gt-JOB_BYTES
returns-then-n-gt-JOB_BYTES c = shape_answered _ _ (sym (shape_long _ c.if-n-gt-JOB_BYTES.true))

pub loop-f-init : goal.loop-f-init
loop-f-init c = record { same = rw (c.into_iter-f-iterator.ensures.into_iter_gives, c.each_field-f-items.ensures.0, c.each_field-f-items.ensures.1) refl }

pub returns-in_err-stage : goal.returns-in_err-stage
returns-in_err-stage c =
    let p = err_from_is_err_and c.from_residual.result c.from_residual.ensures.1 in
    let t = turned_err _ _ _ _ c.map_err.ensures.cases c.in_err-stage.was in
    let w : c.in_err-stage.field-0.0 ≡ record { 0 = c.in-Some.f.place } = (let learnt = t.2 in search rules) in
    let left = ap (λ (fs : List Field). shape_from (length c.args.job.now) fs c.loop-f.stage) c.in-Some.ensures.steps in
    rw (p.1, p.2, w) (shape_answered _ _ (sym (shape_wrong _ _ _ _ t.0 (sym c.place_field.ensures ∙ t.1)) ∙ sym left ∙ c.loop-f.invariant.same ∙ sym (shape_short _ c.if-n-gt-JOB_BYTES.false)))

pub loop-f-preserved : goal.loop-f-preserved
loop-f-preserved c =
    let left = ap (λ (fs : List Field). shape_from (length c.args.job.now) fs c.loop-f.stage) c.in-Some.ensures.steps in
    record { same = sym (shape_on _ _ _ _ _ (sym c.place_field.ensures ∙ turned_ok _ _ _ _ c.map_err.ensures.cases c.in_ok-stage.was)) ∙ sym left ∙ c.loop-f.invariant.same }

pub returns : goal.returns
returns c =
    let left = ap (λ (fs : List Field). shape_from (length c.args.job.now) fs c.loop-f.stage) c.in-None.ensures.steps.0 in
    shape_answered _ _ (c.shape_at_end.ensures ∙ sym (shape_end _ _) ∙ sym left ∙ c.loop-f.invariant.same ∙ sym (shape_short _ c.if-n-gt-JOB_BYTES.false))
