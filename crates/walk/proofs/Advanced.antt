-- The core after an instruction in a walk, whose address slots stand in the settings' bytes: put together from its parts, it is that of the record after it. Assumes nothing.
use mathlib.Core.Bool.{Bool}
use mathlib.Core.Path.{◌≡◌, ap, ◌∙◌}
use mathlib.Core.List.{List}
use Prim.Native.Nat.{ℕ}
use Rattle.cells.specs.declared.layout.ByFile.{ByFile}
use Rattle.word.specs.declared.Operands.{Operands}
use Rattle.control.specs.declared.Slot.{Slot}
use Rattle.control.specs.declared.Own.{Own}
use Rattle.control.specs.declared.Core.{Core}
use Rattle.control.specs.Record.{thread_at, slot_used}
use Rattle.control.specs.Halves.{Choice, thread_of, joined, own_at, core_with}
use Rattle.rules.specs.Multiply.{counted_a}
use Rattle.rules.specs.Instructions.{meaning_of}
use Rattle.rules.specs.After.{slot_number, thread_by, last_by, record_after}
use Rattle.rules.proofs.ByCore.{after_parts}
use Rattle.job.specs.Settings.{choices_in}

-- n, slot, x, o, clear, last and r are the code's: the slot's number and the slot, the thread's own numbers before and after, the files cleared, the last row, the core
pub advanced : (k : Core) (fixed : List ℕ) (t : ℕ) (f : Operands) {n : ℕ} → n ≡ slot_number f
    → {slot : Slot} → ((k : Core) → slot ≡ slot_used (thread_at (joined k (choices_in fixed)) t) n)
    → {x : Own} → x ≡ own_at k t → {o : Own} → ((h : Choice) → thread_of o h ≡ thread_by (meaning_of f).move slot (thread_of x h))
    → {clear : ByFile Bool} → clear ≡ (meaning_of f).clear → {last : ℕ} → last ≡ last_by (meaning_of f).move (counted_a x) k.last
    → {r : Core} → r ≡ core_with k t o clear last → joined r (choices_in fixed) ≡ record_after (joined k (choices_in fixed)) t f
advanced k fixed t f en es =
    after_parts k (choices_in fixed) t f (es k ∙ ap (λ (n : ℕ). slot_used (thread_at (joined k (choices_in fixed)) t) n) en)
