-- Nothing is lost between a record and its numbers: `round_trip`, `taken_whole`, `at_start`. Assumes nothing.
use mathlib.Core.Path.{◌≡◌, refl, sym, ap, ◌∙◌}
use mathlib.Core.Bool.{Bool, true, false}
use mathlib.Core.List.{List, [], ◌∷◌, ◌++◌}
use Prim.Native.Nat.{ℕ, zero, suc, ◌+◌, ◌*◌, ◌<◌, ◌≤◌}
use native.Mathlib.Nat.{add-zero}
use native.Mathlib.Omega.{arith}
use lib.Dec.{eqb, ltb}
use lib.ListN.{length, get_or, take, replicate}
use lib.Seq.{take-suc, take-length}
use borrow.Author.Tests.{eqb-true, eq-eqb, ltb-true, lt-ltb}
use Rattle.cells.specs.Layout.{bank_count, thread_count}
use Rattle.cells.specs.Cells.{between, tabulate}
use Rattle.cells.proofs.Cells.{both, length_over, over_in, between_in}
use Rattle.cells.proofs.Tests.{each_of, below_of, of_below}
use Rattle.control.specs.Record.{slot_count, zero_slot, start_thread, start, thread_at}
use Rattle.control.specs.Range.{src_tests, dst_tests, slot_tests, slot_ok, slots_ok, thread_tests, thread_ok, threads_ok, banks_tests, banks_ok, settings_tests, range_tests, in_range}
use Rattle.control.specs.declared.Slot.{Slot}
use Rattle.control.specs.declared.Thread.{Thread}
use Rattle.control.specs.declared.Banks.{Banks}
use Rattle.control.specs.declared.Control.{Control}
use Rattle.control.proofs.Bounds.{shared_bounds}
use Rattle.numbers.specs.Places.{own_length, slot_length, banks_a, banks_b, last_row, shared_length, thread_length, record_length}
use Rattle.numbers.specs.Lists.{flag, shared_numbers, own_numbers, slot_number_at, thread_number, number_at, record_over}
use Rattle.numbers.specs.Record.{byte, half, on, slot_from, slots_from, thread_from, banks_from, control_from, number_from, read_of, numbers_of, stands, record_of}
use Rattle.numbers.proofs.Parts.{shared_at, thread_from_lem, own_at_lem, slot_from_lem}
use Rattle.numbers.proofs.Stands.{reads_as, in_range_stands}
use Rattle.numbers.proofs.Whole.{Whole}

-- ---- one number

on_of : {n : ℕ} (b : Bool) → n ≡ flag b → on n ≡ b
on_of true e = rw e
on_of false e = rw e

byte_of : {n m : ℕ} (k : ℕ) → n ≡ m → ltb m k ≡ true → k ≤ 256 → byte n ≡ m
byte_of {n} {m} k e h l = let i = ltb-true m k h in omega arith

half_of : {n m : ℕ} → n ≡ m → ltb m 1024 ≡ true → half n ≡ m
half_of {n} {m} e h = let i = ltb-true m 1024 h in omega arith

-- ---- a tabulate of a list's entries is the list

table_take : {A : Type 0} (l : List A) (d : A) (f : ℕ → A) (n : ℕ) → n ≤ length l → ((k : ℕ) → k < n → f k ≡ get_or l k d) → tabulate n f ≡ take n l
table_take l d f zero h e = refl
table_take l d f (suc n) h e =
    (λ i. table_take l d f n (omega arith) (λ k g. e k (omega arith)) i ++ (e n (omega arith) i ∷ [])) ∙ sym (take-suc l n d (omega arith))

table_back : {A : Type 0} (l : List A) (d : A) (f : ℕ → A) (n : ℕ) → length l ≡ n → ((k : ℕ) → k < n → f k ≡ get_or l k d) → tabulate n f ≡ l
table_back l d f n h e = table_take l d f n (omega arith) e ∙ ap (λ (k : ℕ). take k l) (sym h) ∙ take-length l

-- ---- part by part: from place b on, n gives the numbers of the part

module _ (n : ℕ → ℕ) where
  -- the number at place b itself
  first : (b : ℕ) {x : ℕ} → n (b + 0) ≡ x → n b ≡ x
  first b e = ap n (sym (add-zero b)) ∙ e

  slot_back : (s : Slot) (b : ℕ) → slot_ok s ≡ true → ((i : ℕ) → i < slot_length → n (b + i) ≡ slot_number_at s i) → slot_from n b ≡ s
  unfolding slot_number_at
  slot_back s b ok at =
      let e = each_of (slot_tests s) ok in
      let a : (i : ℕ) → ltb i slot_length ≡ true → n (b + i) ≡ slot_number_at s i = λ i h. at i (ltb-true i slot_length h) in
      λ j. record {
        a = record {
          step = record { 0 = byte_of 64 (first b (a 0 refl)) e.0 (omega arith) j };
          clear = on_of s.a.clear (a 1 refl) j;
          carry = on_of s.a.carry (a 2 refl) j;
        };
        b = record {
          step = record { 0 = byte_of 64 (a 3 refl) e.1.0 (omega arith) j };
          clear = on_of s.b.clear (a 4 refl) j;
          carry = on_of s.b.carry (a 5 refl) j;
        };
        dst = record {
          step = record { 0 = half_of (a 6 refl) e.1.1.0 j };
          clear = on_of s.dst.clear (a 7 refl) j;
          carry = on_of s.dst.carry (a 8 refl) j;
          copy = on_of s.dst.copy (a 9 refl) j;
        };
        phase = record { step = byte_of 4 (a 10 refl) e.1.1.1.0 (omega arith) j; clear = on_of s.phase.clear (a 11 refl) j };
      }

  slots_back : (l : List Slot) (b : ℕ) → length l ≡ slot_count → slots_ok l ≡ true
      → ((s i : ℕ) → s < slot_count → i < slot_length → n (b + slot_length * s + i) ≡ slot_number_at (get_or l s zero_slot) i) → slots_from n b ≡ l
  unfolding slots_from slots_ok
  slots_back l b h ok at =
      table_back l zero_slot _ slot_count h
      (λ s g. slot_back (get_or l s zero_slot) _ (below_of (λ (i : ℕ). slot_ok (get_or l i zero_slot)) slot_count ok s g) (λ i f. at s i g f))

  thread_back : (x : Thread) (b : ℕ) → length x.slots ≡ slot_count → thread_ok x ≡ true → ((i : ℕ) → i < thread_length → n (b + i) ≡ thread_number x i) → thread_from n b ≡ x
  unfolding thread_from
  thread_back x b h ok at =
      let e = each_of (thread_tests x) ok in
      let d = each_of (dst_tests x.dst) e.0 in
      let p = each_of (src_tests x.a) e.1.0 in
      let q = each_of (src_tests x.b) e.1.1.0 in
      let a : (i : ℕ) → ltb i own_length ≡ true → n (b + i) ≡ get_or (own_numbers x) i 0 = λ i f. let l = ltb-true i own_length f in at i (omega arith) ∙ own_at_lem x i l in
      λ j. record {
        dst = record { at = record { 0 = half_of (first b (a 0 refl)) d.0 j }; carry = record { 0 = half_of (a 1 refl) d.1.0 j } };
        a = record {
          at = record { 0 = byte_of 64 (a 2 refl) p.0 (omega arith) j };
          carry = record { 0 = byte_of 64 (a 3 refl) p.1.0 (omega arith) j };
        };
        b = record {
          at = record { 0 = byte_of 64 (a 4 refl) q.0 (omega arith) j };
          carry = record { 0 = byte_of 64 (a 5 refl) q.1.0 (omega arith) j };
        };
        phase = byte_of 4 (a 6 refl) e.1.1.1.0 (omega arith) j;
        extra = on_of x.extra (a 7 refl) j;
        offset = half_of (a 8 refl) e.1.1.1.1.0 j;
        fidelity = byte_of 4 (a 9 refl) e.1.1.1.1.1.0 (omega arith) j;
        slots = slots_back x.slots (b + own_length) h e.1.1.1.1.1.1.0 after j;
      }
    where
      after : (s i : ℕ) → s < slot_count → i < slot_length → n (b + own_length + slot_length * s + i) ≡ slot_number_at (get_or x.slots s zero_slot) i
      after s i g f =
          let m : b + own_length + slot_length * s + i ≡ b + (own_length + slot_length * s + i) = omega arith in
          ap n m ∙ at (own_length + slot_length * s + i) (omega arith) ∙ slot_from_lem x s i _ f refl

  banks_back : (x : Banks) (b : ℕ) → banks_ok x ≡ true → n b ≡ x.matrix → n (b + 1) ≡ x.unpack → n (b + 2) ≡ flag x.owned0 → n (b + 3) ≡ flag x.owned1 → banks_from n b ≡ x
  banks_back x b ok m u o p =
      let e = each_of (banks_tests x) ok in
      λ j. record {
        matrix = byte_of bank_count m e.0 (omega arith) j;
        unpack = byte_of bank_count u e.1.0 (omega arith) j;
        owned0 = on_of x.owned0 o j;
        owned1 = on_of x.owned1 p j;
      }

  control_back : (c : Control) → Whole c → in_range c ≡ true → ((p : ℕ) → p < record_length → n p ≡ number_at c p) → control_from n ≡ c
  unfolding control_from in_range threads_ok
  control_back c w ok at =
      let e = each_of (range_tests c) ok in
      let s = each_of (settings_tests c.settings) e.0 in
      let a : (i : ℕ) → ltb i shared_length ≡ true → n i ≡ get_or (shared_numbers c.settings c.a c.b c.last) i 0 = λ i f. let l = ltb-true i shared_length f in at i (omega arith) ∙ shared_at c i l in
      λ j. record {
        settings = record {
          format = byte_of 14 (a 0 refl) s.0 (omega arith) j;
          fp32 = on_of c.settings.fp32 (a 1 refl) j;
          int8 = on_of c.settings.int8 (a 2 refl) j;
          fp16a = on_of c.settings.fp16a (a 3 refl) j;
          base = half_of (a 4 refl) s.1.0 j;
          keep = record { a = on_of c.settings.keep.a (a 5 refl) j; b = on_of c.settings.keep.b (a 6 refl) j };
        };
        threads = table_back c.threads start_thread _ thread_count w.threads (λ t h. thread_back (thread_at c t) _ (w.slots t) (below_of (λ (k : ℕ). thread_ok (thread_at c k)) thread_count e.1.0 t h) (after t h)) j;
        a = banks_back c.a banks_a e.1.1.0 (a banks_a refl) (a (banks_a + 1) refl) (a (banks_a + 2) refl) (a (banks_a + 3) refl) j;
        b = banks_back c.b banks_b e.1.1.1.0 (a banks_b refl) (a (banks_b + 1) refl) (a (banks_b + 2) refl) (a (banks_b + 3) refl) j;
        last = byte_of 49 (a last_row refl) (lt-ltb c.last 49 (omega (arith, (shared_bounds c ok).last))) (omega arith) j;
      }
    where
      after : (t : ℕ) → t < thread_count → (i : ℕ) → i < thread_length → n (shared_length + thread_length * t + i) ≡ thread_number (thread_at c t) i
      after t h i f = at (shared_length + thread_length * t + i) (omega arith) ∙ thread_from_lem c t i _ f refl

-- ---- the round trip

pub round_trip : (c : Control) (l : List ℕ) → Whole c → in_range c ≡ true → length l ≡ record_length → record_of (record_over c l) ≡ c
unfolding numbers_of
round_trip c l w ok h =
    let n = record_over c l in
    let long : length n ≡ record_length = length_over (between 0 record_length) (number_at c) l ∙ h in
    let at : (p : ℕ) → p < record_length → number_from n p ≡ number_at c p = λ p f. over_in (between 0 record_length) (number_at c) l p 0 (between_in 0 record_length p (omega arith) f) (omega arith) in
    let back : c ≡ read_of n = sym (control_back (number_from n) c w ok at) in
    sym (reads_as n long back (ap (numbers_of n) (sym back) ∙ of_below (λ (p : ℕ). eqb (number_from n p) (number_at c p)) record_length (λ p f. eq-eqb _ _ (at p f))))

-- a list that is taken for a record in range has that record's numbers, each flag 0 or 1
pub taken_whole : (l : List ℕ) → in_range (record_of l) ≡ true → (p : ℕ) → p < record_length → number_from l p ≡ number_at (record_of l) p
unfolding record_of stands numbers_of
taken_whole l h p f =
    let e = in_range_stands l h in
    let b = (both (eqb (length l) record_length) (numbers_of l (read_of l)) e).1 in
    eqb-true _ _ (below_of (λ (k : ℕ). eqb (number_from l k) (number_at (read_of l) k)) record_length b p f) ∙ rw e

-- the numbers of the record at the start are all 0
pub at_start : record_of (replicate record_length 0) ≡ start
unfolding record_of stands numbers_of number_at thread_number slot_number_at control_from thread_from slots_from start
at_start = refl
