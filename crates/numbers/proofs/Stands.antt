-- What is read of a list: the record that it stands for, or one out of range. Assumes nothing.
use mathlib.Core.Path.{◌≡◌, refl, sym, ap, ◌∙◌}
use mathlib.Core.Bool.{Bool, true, false, ◌&&◌, cond, and-false, false≢true}
use mathlib.Core.List.{List}
use Prim.Native.Nat.{ℕ, ◌+◌, ◌*◌}
use native.Mathlib.Omega.{arith}
use lib.Dec.{eqb}
use lib.ListN.{length}
use borrow.Author.Tests.{eqb-true, eq-eqb}
use Rattle.cells.proofs.Cells.{split, both}
use Rattle.control.specs.Record.{start}
use Rattle.control.specs.Range.{slots_ok, threads_ok, in_range}
use Rattle.control.specs.declared.Control.{Control}
use Rattle.numbers.specs.Places.{banks_a, banks_b, last_row, shared_length, thread_length, record_length}
use Rattle.numbers.specs.Lists.{shared_numbers, thread_number, number_at, same_from}
use Rattle.numbers.specs.Record.{byte, settings_from, banks_from, thread_from, control_from, number_from, read_of, numbers_of, stands, no_record, record_read, record_of}
use Rattle.numbers.proofs.Tested.{gives, gives_none, given, given_none}
use Rattle.std.proofs.Common.{Some, None}
use Rattle.numbers.proofs.Parts.{shared_at, thread_from_lem, same_part, same_first, same_all}

module _ (l : List ℕ) where
  -- thread t has the numbers that it was read from
  abbrev pub same_thread : ℕ → Bool
  same_thread t =
      let b = shared_length + thread_length * t in
      same_from b thread_length (thread_number (thread_from (number_from l) b)) (number_from l)

  -- part by part
  pub all_parts : {shared x y z : Bool} {xs : List ℕ}
      → xs ≡ shared_numbers (settings_from (number_from l)) (banks_from (number_from l) banks_a) (banks_from (number_from l) banks_b) (byte (number_from l last_row))
      → shared ≡ same_from 0 (length xs) (number_from xs) (number_from l)
      → x ≡ same_thread 0 → y ≡ same_thread 1 → z ≡ same_thread 2 → ((shared && x) && y) && z ≡ numbers_of l (read_of l)
  unfolding control_from
  all_parts r e x y z =
      let c = read_of l in
      let s = same_first {n = number_from l} 0 (number_at c) r e (shared_at c) in
      let s₀ = same_part {next = shared_length + thread_length} shared_length thread_length _ s x refl (λ i h. thread_from_lem c 0 i _ h (omega arith)) refl in
      let s₁ = same_part {next = shared_length + thread_length * 2} (shared_length + thread_length) thread_length _ s₀ y refl (λ i h. thread_from_lem c 1 i _ h (omega arith)) refl in
      let s₂ = same_part {next = record_length} (shared_length + thread_length * 2) thread_length _ s₁ z refl (λ i h. thread_from_lem c 2 i _ h (omega arith)) refl in
      s₂.so_far ∙ same_all l c

  -- what is read then
  pub reads_as : {c : Control} → length l ≡ record_length → c ≡ read_of l → numbers_of l (read_of l) ≡ true → c ≡ record_of l
  unfolding stands record_of
  reads_as long is h = is ∙ simp (eq-eqb _ _ long, h)

  pub read_some : {c : Control} → length l ≡ record_length → true ≡ numbers_of l (read_of l) → c ≡ read_of l → Some c ≡ record_read l
  unfolding stands
  read_some long h is = gives is (λ i. sym (eq-eqb _ _ long) i && h i) refl

  pub read_none : false ≡ numbers_of l (read_of l) → None ≡ record_read l
  unfolding stands
  read_none h = gives_none (read_of l) (sym (and-false (eqb (length l) record_length)) ∙ ap (λ (b : Bool). eqb (length l) record_length && b) h) refl

  pub record_some : {c : Control} → Some c ≡ record_read l → c ≡ record_of l
  unfolding record_of
  record_some e = let g = given (read_of l) (stands l) e in g.1 ∙ sym (ap (λ (b : Bool). cond b (read_of l) no_record) g.0)

  pub record_none : None ≡ record_read l → no_record ≡ record_of l
  unfolding record_of
  record_none e = sym (ap (λ (b : Bool). cond b (read_of l) no_record) (given_none (read_of l) (stands l) e))

-- a list that stands for no record is refused
none_refused : in_range no_record ≡ false
unfolding in_range start threads_ok slots_ok
none_refused = refl

pub in_range_stands : (l : List ℕ) → in_range (record_of l) ≡ true → stands l ≡ true
unfolding record_of
in_range_stands l h = split (stands l) (λ e. e) (λ e. absurd (false≢true (sym none_refused ∙ (rw e at h))))

pub stands_long : (l : List ℕ) → stands l ≡ true → length l ≡ record_length
unfolding stands
stands_long l h = eqb-true _ _ (both (eqb (length l) record_length) (numbers_of l (read_of l)) h).0

pub in_range_long : (l : List ℕ) → in_range (record_of l) ≡ true → length l ≡ record_length
in_range_long l h = stands_long l (in_range_stands l h)
