-- What a `?` hands on, and refusals at a place. Assumes nothing.
use Rattle.std.specs.Prelude.{Result, Ok, Err}
use Rattle.std.specs.Result.{IsErrAnd}
use mathlib.Core.Path.{◌≡◌, ap}
use Prim.Native.Nat.{ℕ}
use Rattle.word.specs.Refusal.{refused_at}
use Rattle.word.specs.declared.Refusal.{Refusal}
use Rattle.word.specs.declared.Refused.{Refused}

-- the very error that it was given
pub passed_on : {T E : Type 0} (r : Result T E) (x : E) → IsErrAnd r (λ y. y ≡ x) → r ≡ Err x
passed_on (Ok t) x h = absurd h
passed_on (Err y) x h = ap Err h

-- refusals at places that are answered alike are the same, and stand at the same place
pub same_refused : {T : Type 0} {a c : Refusal} {b d : ℕ} → ◌≡◌ {A = Result T Refused} (Err (refused_at a b)) (Err (refused_at c d)) → (a ≡ c) × (b ≡ d)
same_refused {T} {a} {c} {b} {d} e =
    let u : refused_at a b ≡ refused_at c d = cc in
    (ap (λ (x : Refused). x.refusal) u, ap (λ (x : Refused). x.place) u)
