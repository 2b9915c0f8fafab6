-- What an instruction makes of the core of a record, joined with any address slots, is what it makes of the record. Assumes nothing.
use Rattle.std.specs.Prelude.{Bool}
use mathlib.Core.Path.{◌≡◌, refl, sym, ap, ◌∙◌}
use mathlib.Core.Bool.{true, false≢true}
use Prim.Native.Nat.{ℕ, ◌+◌, ◌%◌}
use Rattle.cells.specs.Layout.{bank_rows}
use Rattle.cells.specs.declared.layout.ByFile.{ByFile}
use Rattle.word.specs.declared.Height.{Height}
use Rattle.word.specs.declared.Operands.{Operands}
use Rattle.word.specs.declared.Operands.TheVariants as operands
use Rattle.control.specs.declared.Slot.{Slot}
use Rattle.control.specs.declared.Thread.{Thread}
use Rattle.control.specs.declared.Own.{Own}
use Rattle.control.specs.declared.Core.{Core}
use Rattle.control.specs.declared.Control.{Control}
use Rattle.control.specs.Record.{thread_at, slot_used, with_thread, with_last}
use Rattle.control.specs.Change.{clear_banks, apply_slot, move_on, set_thread, set_counters, add_thread, add_counters}
use Rattle.control.specs.Halves.{Choice, thread_of, joined, own_at, with_own, core_with}
use Rattle.control.proofs.Joined.{own_joined, put_joined, thread_back}
use Rattle.rules.specs.Vocabulary as move
use Rattle.rules.specs.Multiply.{counted_a, counted_b, counted_dst, counted_phase, row_a, row_b, row_dst, phase_of}
use Rattle.rules.specs.Instructions.{meaning_of}
use Rattle.rules.specs.After.{moved, slot_in, slot_number, thread_by, last_by, leaves_record, record_after}

-- ---- the rows, x being the thread's own numbers

module _ (k : Core) (s : ℕ → Choice) (t : ℕ) {x : Own} (e : x ≡ own_at k t) where
  pub row_a_by : counted_a x ≡ row_a (joined k s) t
  unfolding row_a
  row_a_by = ap (λ (o : Own). counted_a o) (e ∙ sym (own_joined k s t))

  pub row_b_by : counted_b x ≡ row_b (joined k s) t
  unfolding row_b
  row_b_by = ap (λ (o : Own). counted_b o) (e ∙ sym (own_joined k s t))

  pub row_dst_by : (h : Height) (d : ℕ) → counted_dst k.settings.base x h d ≡ row_dst (joined k s) t h d
  unfolding row_dst joined
  row_dst_by h d = ap (λ (o : Own). counted_dst k.settings.base o h d) (e ∙ sym (own_joined k s t))

  pub phase_by : counted_phase x ≡ phase_of (joined k s) t
  phase_by = ap (λ (o : Own). counted_phase o) (e ∙ sym (own_joined k s t))

  pub shifted_by : (row : ℕ) → (row + x.b.at.0) % bank_rows ≡ (row + (thread_at (joined k s) t).b.at.0) % bank_rows
  shifted_by row = ap (λ (o : Own). (row + o.b.at.0) % bank_rows) (e ∙ sym (own_joined k s t))

-- ---- the record after, by its parts: the thread's own numbers, the files cleared, the last SrcA row

module _ (k : Core) (s : ℕ → Choice) (t : ℕ) (slot : Slot) (o : Own) where
  -- around a thread that is changed: the clear, and the last row
  around : (f : ByFile Bool) (last : ℕ) {c : Control} → joined (with_own k t o) s ≡ c → joined (core_with k t o f last) s ≡ with_last (clear_banks c f) last
  unfolding joined clear_banks
  around f last e = ap (λ (c : Control). with_last (clear_banks c f) last) e

  slotted : (n : ℕ) → slot ≡ slot_used (thread_at (joined k s) t) n → ((h : Choice) → thread_of o h ≡ apply_slot (thread_of (own_at k t) h) slot)
      → joined (with_own k t o) s ≡ move_on (joined k s) t n
  unfolding move_on
  slotted n es eo =
      put_joined k s t o (λ (x : Thread). apply_slot x slot) eo
      ∙ ap (λ (z : Slot). with_thread (joined k s) t (apply_slot (thread_at (joined k s) t) z)) es

  move_by : (m : move.Move) (f : ByFile Bool) → slot ≡ slot_used (thread_at (joined k s) t) (slot_in m)
      → ((h : Choice) → thread_of o h ≡ thread_by m slot (thread_of (own_at k t) h))
      → joined (core_with k t o f (last_by m (counted_a (own_at k t)) k.last)) s ≡ moved m (clear_banks (joined k s) f) t
  unfolding joined clear_banks move_on set_counters add_counters row_a
  move_by move.Stay f es eo = around f k.last (put_joined k s t o (λ (x : Thread). x) eo ∙ thread_back k s t)
  move_by (move.Slot n) f es eo = around f k.last (slotted n es eo)
  move_by (move.SlotAndLast n) f es eo =
      around f (counted_a (own_at k t)) (slotted n es eo)
      ∙ ap (λ (last : ℕ). with_last (clear_banks (move_on (joined k s) t n) f) last) (row_a_by k s t refl)
  move_by (move.Set y) f es eo = around f k.last (put_joined k s t o (λ (x : Thread). set_thread x y.which y.d y.b y.a) eo)
  move_by (move.Add y) f es eo = around f k.last (put_joined k s t o (λ (x : Thread). add_thread x y.d y.b y.a) eo)

  after_by : (f : Operands) → slot ≡ slot_used (thread_at (joined k s) t) (slot_number f)
      → ((h : Choice) → thread_of o h ≡ thread_by (meaning_of f).move slot (thread_of (own_at k t) h))
      → joined (core_with k t o (meaning_of f).clear (last_by (meaning_of f).move (counted_a (own_at k t)) k.last)) s ≡ record_after (joined k s) t f
  unfolding record_after
  after_by f es eo = move_by (meaning_of f).move (meaning_of f).clear es eo

-- the same of the code's own slot, numbers of the thread before and after it, files to clear, last row, and core
pub after_parts : (k : Core) (s : ℕ → Choice) (t : ℕ) (f : Operands) {slot : Slot} → slot ≡ slot_used (thread_at (joined k s) t) (slot_number f)
    → {x : Own} → x ≡ own_at k t → {o : Own} → ((h : Choice) → thread_of o h ≡ thread_by (meaning_of f).move slot (thread_of x h))
    → {clear : ByFile Bool} → clear ≡ (meaning_of f).clear → {last : ℕ} → last ≡ last_by (meaning_of f).move (counted_a x) k.last
    → {r : Core} → r ≡ core_with k t o clear last → joined r s ≡ record_after (joined k s) t f
after_parts k s t f {slot} es ex {o} eo {clear} ef {last} el er =
    ap (λ (r : Core). joined r s) er
    ∙ (λ i. joined (core_with k t o (ef i) ((el ∙ ap (λ (x : Own). last_by (meaning_of f).move (counted_a x) k.last) ex) i)) s)
    ∙ after_by k s t slot o f es (λ h. eo h ∙ ap (λ (x : Own). thread_by (meaning_of f).move slot (thread_of x h)) ex)

-- an instruction that leaves the record
pub leaves : (c : Control) (t : ℕ) (f : Operands) → leaves_record f ≡ true → record_after c t f ≡ c
unfolding record_after clear_banks
leaves c t (operands.Multiply m) h = absurd (false≢true h)
leaves c t (operands.Legacy l) h = absurd (false≢true h)
leaves c t (operands.SetCounters x) h = absurd (false≢true h)
leaves c t (operands.AddCounters x) h = absurd (false≢true h)
leaves c t (operands.ZeroSrc z) h = refl
leaves c t (operands.ShiftA x) h = refl
leaves c t (operands.ShiftB x) h = absurd (false≢true h)
leaves c t operands.NoEffect h = refl
leaves c t (operands.Scalar x) h = refl
