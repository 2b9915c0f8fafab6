-- The halves of the record and a settings field: joined, the core and the payload after it are the record after it, and the zeros that stand before
-- any such field are the address slots at the start. Assumes nothing.
use mathlib.Core.Path.{◌≡◌, refl, ap, ◌∙◌}
use mathlib.Core.Bool.{cond}
use mathlib.Core.List.{List}
use Prim.Native.Nat.{ℕ, ◌+◌, ◌≤◌, ◌<◌}
use lib.Dec.{eqb, ltb}
use lib.ListN.{length, get_or, replicate, get_or-replicate, get_or-eq_default}
use borrow.Author.Tests.{ltb-true, ltb-false}
use Rattle.cells.specs.Layout.{thread_count}
use Rattle.cells.proofs.Cells.{split}
use Rattle.cells.proofs.Tables.{get_d_table}
use Rattle.control.specs.Record.{slot_count, zero_slot, start_thread, start, thread_at, slot_used}
use Rattle.control.specs.Halves.{Choice, core_of, joined, start_core}
use Rattle.control.specs.declared.Thread.{Thread}
use Rattle.control.specs.declared.Core.{Core}
use Rattle.control.proofs.Joined.{choice_joined}
use Rattle.job.specs.Settings.{settings_bytes, thread_start, slot_start, slots_of, slot_of, settled, settled_by, choices_in, settled_core, core_by, bytes_by}

-- ---- joined

pub settled_joined : (k : Core) (p q : List ℕ) → joined (core_by k p) (choices_in (bytes_by p q)) ≡ settled_by (joined k (choices_in q)) p
unfolding joined choices_in core_by bytes_by settled_core settled_by settled
settled_joined k p q = split (eqb (length p) settings_bytes) (λ e. simp e) (λ e. simp e)

pub start_bytes : joined start_core (choices_in (replicate settings_bytes 0)) ≡ start
unfolding joined choices_in core_of start slots_of slot_of
start_bytes = refl

-- in a walk: k and q are the halves before the settings whose payload is p
pub settled_on : (k : Core) (q p : List ℕ) {k' : Core} {q' p' : List ℕ} → k' ≡ core_by k p → q' ≡ bytes_by p q → p ≡ p'
    → joined k' (choices_in q') ≡ settled_by (joined k (choices_in q)) p'
settled_on k q p ek eq ep =
    (λ i. joined (ek i) (choices_in (eq i))) ∙ settled_joined k p q ∙ ap (settled_by (joined k (choices_in q))) ep

-- and before its first field
pub start_on : {k : Core} → k ≡ start_core → joined k (choices_in (replicate settings_bytes 0)) ≡ start
start_on e = ap (λ (k : Core). joined k (choices_in (replicate settings_bytes 0))) e ∙ start_bytes

-- ---- a slot where it stands

-- of slots that change nothing each changes nothing
none_used : (n : ℕ) → get_or (replicate slot_count zero_slot) n zero_slot ≡ zero_slot
none_used n =
    split (ltb n slot_count)
    (λ e. get_or-replicate slot_count n zero_slot zero_slot (ltb-true n slot_count e))
    (λ e. get_or-eq_default (replicate slot_count zero_slot) zero_slot (ltb-false n slot_count e))

module _ (k : Core) (p : List ℕ) (t n : ℕ) where
  -- past the threads
  pub slot_past : thread_count ≤ t → slot_used (thread_at (joined k (choices_in p)) t) n ≡ zero_slot
  unfolding joined
  slot_past h =
      ap (λ (x : Thread). slot_used x n) (get_or-eq_default (joined k (choices_in p)).threads start_thread h) ∙ none_used n

  -- of a thread, the place in its slots: the number, plus 4 with the extra bit
  module _ (inside : t < thread_count) (i : ℕ) (place : i ≡ cond (eqb (get_or p (thread_start t + 3) 0) 1) (n + 4) n) where
    slot_chosen : slot_used (thread_at (joined k (choices_in p)) t) n ≡ get_or (slots_of p (thread_start t + 4)) i zero_slot
    unfolding choices_in
    slot_chosen =
        ap (λ (h : Choice). get_or h.slots (cond h.extra (n + 4) n) zero_slot) (choice_joined k (choices_in p) t inside) ∙ rw place

    pub slot_within : i < slot_count → slot_used (thread_at (joined k (choices_in p)) t) n ≡ slot_of p (slot_start (thread_start t + 4) i)
    unfolding slots_of
    slot_within l = slot_chosen ∙ get_d_table slot_count (λ (s : ℕ). slot_of p (slot_start (thread_start t + 4) s)) zero_slot i l

    pub slot_outside : slot_count ≤ i → slot_used (thread_at (joined k (choices_in p)) t) n ≡ zero_slot
    unfolding slots_of
    slot_outside l = slot_chosen ∙ get_or-eq_default (slots_of p (thread_start t + 4)) zero_slot l
