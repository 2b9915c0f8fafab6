-- `job::fields::FieldWalkIterator::next` meets its contract, by the one law of every loop over the fields: the field at the place, and those after it are left;
-- at the end none is. Assumes nothing.
use mathlib.Core.Path.{◌≡◌, refl, sym}
use mathlib.Core.List.{List, [], ◌∷◌}
use native.Mathlib.Omega.{arith}
use lib.ListN.{length}
use Prim.Native.Nat.{ℕ, ◌+◌, ◌≤◌, ◌<◌}
use Rattle.std.proofs.Common.{rules}
use Rattle.std.specs.Prelude.{⊤}
use Rattle.job.specs.Fields.{field_at, fields_from}
use Rattle.job.specs.declared.Field.{Field}
use Rattle.job.proofs.Walk.{Reached, reached_first, reached_stop, reached_end, reached_on}
use Rattle.job.proofs.fields.FieldWalkIterator.next.Goals as goal

-- the walk that answers the fields themselves
abbrev left : List Field → ⊤ → List Field
left fs u = fs

here : (job : List ℕ) (at : ℕ) → Reached left job at tt at tt
here job at = reached_first left job at tt

step : (job : List ℕ) (at : ℕ) (f : Field) → at < length job → f ≡ field_at job at → fields_from job at ≡ f ∷ fields_from job f.next
step job at f h e = sym (reached_stop left job (here job at) f h e _ refl)

none : (job : List ℕ) (at : ℕ) → length job ≤ at → fields_from job at ≡ []
none job at h = sym (reached_end left job (here job at) [] h refl)

-- the walk that counts them; one turn of it
abbrev counted : List Field → ℕ → ℕ
counted fs n = n + length fs

turn : (job : List ℕ) (at : ℕ) (f : Field) → at < length job → f ≡ field_at job at → Reached counted job at 0 f.next 1
turn job at f h e = reached_on counted job (reached_first counted job at 0) f h e 1 (omega arith)

pub returns-then-self-clause-steps : goal.returns-then-self-clause-steps
returns-then-self-clause-steps c = let s = c.args.self.now in
    step s.job.now s.at _ c.if-self.true c.field_at-f.ensures.field

pub returns-then-self-clause-goes : goal.returns-then-self-clause-goes
returns-then-self-clause-goes c = let s = c.args.self.now in
    let shorter : length (fields_from s.job.now s.at) ≡ 1 + length (fields_from s.job.now c.field_at-f.result.next) = omega (arith, (turn s.job.now s.at _ c.if-self.true c.field_at-f.ensures.field).same) in
    search rules

pub returns-clause-steps : goal.returns-clause-steps
returns-clause-steps c = (none _ _ c.if-self.false, none _ _ c.if-self.false)
