-- The same outcome and state print the same. Assumes nothing.
use Rattle.std.specs.Prelude.{Result}
use Rattle.std.proofs.Common.{◌≡◌, refl, subst, List, ℕ}
use Rattle.cells.specs.State.{State}
use Rattle.run.specs.Run.{Ran}
use Rattle.lines.specs.Printed.{printed_by, printed_of}
use Rattle.show.specs.Bytes.{bytes_of}
use Rattle.word.specs.declared.Refused.{Refused}

pub same_bytes : (job : List ℕ) (r : Ran) (o : Result ℕ Refused) (s : State) (A : List ℕ → Type 0) → o ≡ r.outcome → s ≡ r.state
    → A (bytes_of (printed_by job o s)) → A (bytes_of (printed_of job r))
same_bytes job r o s A same left h =
    subst (λ (p : Result ℕ Refused). A (bytes_of (printed_by job p r.state))) same
    (subst (λ (t : State). A (bytes_of (printed_by job o t))) left h)

pub printed_alike : (job : List ℕ) (r : Ran) (o : Result ℕ Refused) (s : State) → o ≡ r.outcome → s ≡ r.state → bytes_of (printed_by job o s) ≡ bytes_of (printed_of job r)
printed_alike job r o s same left = same_bytes job r o s (λ bs. bytes_of (printed_by job o s) ≡ bs) same left refl
