-- Steps can be chained: the numbers after a step stand for the record after it. Assumes nothing.
use Rattle.std.specs.Prelude.{Result, Ok, Err, ⊤}
use mathlib.Core.Path.{◌≡◌, refl, ap, ◌∙◌}
use mathlib.Core.Bool.{true}
use mathlib.Core.List.{List}
use Prim.Native.Nat.{ℕ}
use lib.ListN.{length}
use Rattle.cells.specs.State.{State}
use Rattle.control.specs.Range.{in_range}
use Rattle.control.specs.declared.Control.{Control}
use Rattle.numbers.specs.Lists.{record_over}
use Rattle.numbers.specs.Record.{record_of}
use Rattle.numbers.proofs.Stands.{in_range_long}
use Rattle.numbers.proofs.Whole.{Whole, record_whole}
use Rattle.numbers.proofs.RoundTrip.{round_trip}
use Rattle.rules.specs.After.{control_after}
use Rattle.step.specs.Step.{verdict_of, if_done, stepped_of}
use Rattle.rules.proofs.AfterKeeps.{control_after_kept}
use Rattle.capi.specs.Step.{numbers_after}
use Rattle.capi.proofs.SlotsKept.{SameSlots, after_slots}
use Rattle.capi.proofs.Steps.{done_in_range}
use Rattle.word.specs.declared.Refusal.{Refusal}

-- a record that has all its threads and slots keeps them
same_whole : {c d : Control} → SameSlots c d → Whole c → Whole d
same_whole s w = record { threads = s.threads ∙ w.threads; slots = λ t. ap length (s.slots t) ∙ w.slots t }

-- so the numbers after a step stand for the record after it
pub chained : (l : List ℕ) (t w : ℕ) (s : State) → record_of (numbers_after l t w s) ≡ (stepped_of (record_of l) t w s).control
unfolding numbers_after stepped_of control_after
chained l t w s = go (verdict_of (record_of l) t w s) refl
  where
    go : (v : Result ⊤ Refusal) → verdict_of (record_of l) t w s ≡ v
        → record_of (if_done v (record_over (if_done v (control_after (record_of l) t w) (record_of l)) l) l) ≡ if_done v (control_after (record_of l) t w) (record_of l)
    go (Ok u) e =
        let r : in_range (record_of l) ≡ true = done_in_range (record_of l) t w s e in
        round_trip (control_after (record_of l) t w) l (same_whole (after_slots (record_of l) t w) (record_whole l)) (control_after_kept (record_of l) t w r) (in_range_long l r)
    go (Err x) e = refl
