-- `job::settings::settings_bytes` meets its contract: the payload as an array, where it has that length. Assumes nothing.
use mathlib.Core.Bool.{cond}
use mathlib.Core.Logic.{◌≢◌}
use mathlib.Core.Path.{◌≡◌, ◌∙◌}
use mathlib.Core.List.{List}
use Prim.Native.Nat.{ℕ}
use lib.Dec.{eqb}
use lib.ListN.{length}
use borrow.Author.Tests.{ne_eqb, eq-eqb}
use Rattle.std.specs.Prelude.{Result, Ok, Err, MatchResult}
use Rattle.std.specs.Array.{IsWholeChunk}
use Rattle.std.specs.Result.{result_unwrap_or}
use Rattle.job.specs.Settings.{bytes_by}
use Rattle.job.proofs.settings.settings_bytes.Goals as goal

taken : {E : Type 0} (p old : List ℕ) (n : ℕ) (r : Result (List ℕ) E) → MatchResult r (λ y. IsWholeChunk p y n) (λ _. length p ≢ n) → result_unwrap_or r old ≡ cond (eqb (length p) n) p old
taken p old n (Ok y) h = rw (eq-eqb (length p) n h.long) h.same
taken p old n (Err e) h = rw (ne_eqb (length p) n h)

pub returns : goal.returns
unfolding bytes_by
returns c = c.unwrap_or.ensures ∙ taken c.args.p.now c.args.old 160 _ c.try_from.ensures.1
