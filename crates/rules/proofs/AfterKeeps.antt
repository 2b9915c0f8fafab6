-- What an instruction keeps of the control record: asked of each change once, whatever instructions make it. Assumes nothing.
use Rattle.std.specs.Prelude.{Bool}
use mathlib.Core.Path.{◌≡◌, refl}
use mathlib.Core.Bool.{true}
use Prim.Native.Nat.{ℕ}
use lib.Bits.{bit_and}
use Rattle.cells.specs.declared.layout.ByFile.{ByFile}
use Rattle.word.specs.declared.Which.{Which}
use Rattle.word.specs.declared.Operands.{Operands}
use Rattle.control.specs.declared.Control.{Control}
use Rattle.control.specs.Record.{thread_at, with_last}
use Rattle.control.specs.Range.{in_range}
use Rattle.control.specs.Change.{cleared_if, clear_banks, move_on, set_counters, add_counters}
use Rattle.control.proofs.StaysInRange.{clear_kept, last_kept, move_kept, set_kept, add_kept}
use Rattle.rules.specs.Vocabulary.{Move, Stay, Slot, SlotAndLast, Set, Add}
use Rattle.rules.specs.Multiply.{row_a}
use Rattle.rules.specs.Instructions.{meaning_of}
use Rattle.rules.specs.After.{moved, last_by, record_after, acting, control_after}

-- a clear, a slot, a last SrcA row, SETRWC and INCRWC keep P
pub record Keeps (P : Control → Type 0) : Type 0 where
  pub clear : (c : Control) (f : ByFile Bool) → P c → P (clear_banks c f)
  pub slot : (c : Control) (t n : ℕ) → P c → P (move_on c t n)
  pub last : (c : Control) (n : ℕ) → P c → P (with_last c (bit_and n 0x30))
  pub set : (c : Control) (t : ℕ) (which : Which) (d b a : ℕ) → P c → P (set_counters c t which d b a)
  pub add : (c : Control) (t d b a : ℕ) → P c → P (add_counters c t d b a)

module _ (P : Control → Type 0) (keeps : Keeps P) where
  move_keeps : (m : Move) (c : Control) (t : ℕ) → P c → P (moved m c t)
  unfolding row_a
  move_keeps Stay c t p = p
  move_keeps (Slot n) c t p = keeps.slot c t n p
  move_keeps (SlotAndLast n) c t p = keeps.last (move_on c t n) (thread_at c t).a.at.0 (keeps.slot c t n p)
  move_keeps (Set s) c t p = keeps.set c t s.which s.d s.b s.a p
  move_keeps (Add s) c t p = keeps.add c t s.d s.b s.a p

  -- then every instruction does
  pub record_after_keeps : (c : Control) (t : ℕ) (f : Operands) → P c → P (record_after c t f)
  unfolding record_after
  record_after_keeps c t f p = move_keeps (meaning_of f).move (clear_banks c (meaning_of f).clear) t (keeps.clear c (meaning_of f).clear p)

-- a record in range stays in range
range_keeps : Keeps (λ c. in_range c ≡ true)
range_keeps = record { clear = clear_kept; slot = move_kept; last = last_kept; set = set_kept; add = add_kept }

pub record_after_kept : (c : Control) (t : ℕ) (f : Operands) → in_range c ≡ true → in_range (record_after c t f) ≡ true
record_after_kept = record_after_keeps (λ c. in_range c ≡ true) range_keeps

pub control_after_kept : (c : Control) (t w : ℕ) → in_range c ≡ true → in_range (control_after c t w) ≡ true
unfolding control_after
control_after_kept c t w h = record_after_kept c t (acting w) h

-- the settings stay
abbrev Same : Control → Control → Type 0
Same c d = d.settings ≡ c.settings

settings_keeps : (c : Control) → Keeps (Same c)
unfolding clear_banks move_on set_counters add_counters
settings_keeps c =
    record {
      clear = λ d f p. p;
      slot = λ d t n p. p;
      last = λ d n p. p;
      set = λ d t which x b a p. p;
      add = λ d t x b a p. p;
    }

pub record_after_settings : (c : Control) (t : ℕ) (f : Operands) → (record_after c t f).settings ≡ c.settings
record_after_settings c t f = record_after_keeps (Same c) (settings_keeps c) c t f refl

-- ---- the last SrcA row after it

move_last : (m : Move) (c : Control) (f : ByFile Bool) (t : ℕ) → (moved m (clear_banks c f) t).last ≡ last_by m (row_a c t) c.last
unfolding clear_banks move_on set_counters add_counters row_a
move_last Stay c f t = refl
move_last (Slot n) c f t = refl
move_last (SlotAndLast n) c f t = refl
move_last (Set s) c f t = refl
move_last (Add s) c f t = refl

pub last_after : (c : Control) (t : ℕ) (f : Operands) → (record_after c t f).last ≡ last_by (meaning_of f).move (row_a c t) c.last
unfolding record_after
last_after c t f = move_last (meaning_of f).move c (meaning_of f).clear t

-- ---- the banks after it: a clear alone changes them

move_banks : (m : Move) (c : Control) (t : ℕ) → ((moved m c t).a ≡ c.a) × ((moved m c t).b ≡ c.b)
unfolding move_on set_counters add_counters
move_banks Stay c t = (refl, refl)
move_banks (Slot n) c t = (refl, refl)
move_banks (SlotAndLast n) c t = (refl, refl)
move_banks (Set s) c t = (refl, refl)
move_banks (Add s) c t = (refl, refl)

pub banks_after : (c : Control) (t : ℕ) (f : Operands)
    → ((record_after c t f).a ≡ cleared_if c.a (meaning_of f).clear.a c.settings.keep.a)
    × ((record_after c t f).b ≡ cleared_if c.b (meaning_of f).clear.b c.settings.keep.b)
unfolding record_after clear_banks
banks_after c t f = move_banks (meaning_of f).move (clear_banks c (meaning_of f).clear) t
