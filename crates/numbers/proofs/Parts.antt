-- A record's numbers part after part: where each part stands, and a walk that compares or writes one part after the other. Assumes nothing.
use mathlib.Core.Path.{◌≡◌, refl, sym, ap, ap₂, subst, ◌∙◌}
use mathlib.Core.Bool.{Bool, true, false, true≢false, ◌&&◌, and-true, and_assoc}
use mathlib.Core.List.{List}
use Prim.Native.Nat.{ℕ, zero, suc, ◌+◌, ◌-◌, ◌*◌, ◌/◌, ◌%◌, ◌<◌, ◌≤◌}
use native.Mathlib.Nat.{add-zero, add-suc, add_assoc, zero-add}
use native.Mathlib.Numerals.{add-one}
use native.Mathlib.Omega.{arith}
use lib.Dec.{eqb, ltb}
use lib.ListN.{length, get_or, set, length-set}
use lib.Seq.{paste}
use borrow.Rule.Slice.PartMut.{put_mid}
use Rattle.std.proofs.lemmas.Slice.{put_mid-paste}
use Rattle.std.proofs.lemmas.List.Edits.{paste_none, paste_more}
use borrow.Author.Tests.{ltb-true, ltb-false, lt-ltb, le-ltb, eq-eqb}
use Rattle.cells.specs.Cells.{over, between, within}
use Rattle.cells.specs.Tests.{below}
use Rattle.cells.proofs.Cells.{split, turn, over_none, over_between_none, over_agree, over_twice, within_true, between_in}
use Rattle.control.specs.Record.{zero_slot, thread_at}
use Rattle.control.specs.declared.Thread.{Thread}
use Rattle.control.specs.declared.Control.{Control}
use Rattle.numbers.specs.Places.{own_length, slot_length, shared_length, thread_length, record_length}
use Rattle.numbers.specs.Lists.{shared_numbers, own_numbers, slot_number_at, thread_number, number_at, outside_slots, but_slots_over, same_from, over_from}
use Rattle.numbers.specs.Record.{number_from, numbers_of}

-- ---- where each part stands

pub shared_at : (c : Control) (i : ℕ) → i < shared_length → number_at c i ≡ get_or (shared_numbers c.settings c.a c.b c.last) i 0
unfolding number_at
shared_at c i h = rw (lt-ltb i shared_length h)

pub thread_from_lem : (c : Control) (t i p : ℕ) → i < thread_length → p ≡ shared_length + thread_length * t + i → number_at c p ≡ thread_number (thread_at c t) i
unfolding number_at
thread_from_lem c t i p h e =
    let k : (p - shared_length) / thread_length ≡ t = omega arith in
    let m : (p - shared_length) % thread_length ≡ i = omega arith in
    rw (le-ltb p shared_length (omega arith)) (λ j. thread_number (thread_at c (k j)) (m j))

pub own_at_lem : (x : Thread) (i : ℕ) → i < own_length → thread_number x i ≡ get_or (own_numbers x) i 0
unfolding thread_number
own_at_lem x i h = rw (lt-ltb i own_length h)

pub slot_from_lem : (x : Thread) (s i p : ℕ) → i < slot_length → p ≡ own_length + slot_length * s + i → thread_number x p ≡ slot_number_at (get_or x.slots s zero_slot) i
unfolding thread_number
slot_from_lem x s i p h e =
    let k : (p - own_length) / slot_length ≡ s = omega arith in
    let m : (p - own_length) % slot_length ≡ i = omega arith in
    rw (le-ltb p own_length (omega arith)) (λ j. slot_number_at (get_or x.slots (k j) zero_slot) (m j))

-- ---- compared

below_add : (f : ℕ → Bool) (k m : ℕ) → below f (k + m) ≡ below f k && below (λ (i : ℕ). f (k + i)) m
below_add f k zero = rw add-zero (sym (and-true (below f k)))
below_add f k (suc m) = rw (add-suc, below_add f k m) (and_assoc (below f k) (below (λ (i : ℕ). f (k + i)) m) (f (k + m)))

below_same : (f g : ℕ → Bool) (m : ℕ) → ((i : ℕ) → i < m → f i ≡ g i) → below f m ≡ below g m
below_same f g zero h = refl
below_same f g (suc m) h = ap₂ ◌&&◌ (below_same f g m (λ i l. h i (omega arith))) (h m (omega arith))

-- k numbers
pub record Same (b : ℕ) (f n : ℕ → ℕ) (all : Bool) (k : ℕ) : Type 0 where
  pub so_far : all ≡ same_from b k f n

pub same_none : (b : ℕ) (f n : ℕ → ℕ) → Same b f n true 0
same_none b f n = record { so_far = refl }

module _ {b : ℕ} {f n : ℕ → ℕ} {all : Bool} {k : ℕ} where
  -- and then a part of m, from place p on
  pub same_part : {part : Bool} {next : ℕ} (p m : ℕ) (g : ℕ → ℕ) → Same b f n all k → part ≡ same_from p m g n
      → p ≡ b + k → ((i : ℕ) → i < m → f (k + i) ≡ g i) → k + m ≡ next → Same b f n (all && part) next
  same_part p m g w q h e z =
      record {
        so_far = ap₂ ◌&&◌ w.so_far (q ∙ below_same _ _ m (λ i l. ap₂ eqb (ap n (ap (λ (x : ℕ). x + i) h ∙ add_assoc b k i)) (sym (e i l))))
            ∙ sym (below_add (λ (i : ℕ). eqb (n (b + i)) (f i)) k m) ∙ ap (λ (x : ℕ). same_from b x f n) z;
      }

-- and then the numbers of a list
pub same_list : {b : ℕ} {f n : ℕ → ℕ} {all part : Bool} {k next : ℕ} (p : ℕ) {xs ys : List ℕ} → ys ≡ xs → Same b f n all k → part ≡ same_from p (length ys) (number_from ys) n
    → p ≡ b + k → ((i : ℕ) → i < length xs → f (k + i) ≡ number_from xs i) → k + length xs ≡ next → Same b f n (all && part) next
same_list {n = n} p {xs} r w q h e z = same_part p (length xs) (number_from xs) w (q ∙ ap (λ (l : List ℕ). same_from p (length l) (number_from l) n) r) h e z

-- the numbers of a list at the start
pub same_first : {n : ℕ → ℕ} {part : Bool} (b : ℕ) (f : ℕ → ℕ) {xs ys : List ℕ} → ys ≡ xs → part ≡ same_from b (length ys) (number_from ys) n
    → ((i : ℕ) → i < length xs → f i ≡ number_from xs i) → Same b f n part (length xs)
same_first {n} b f {xs} r q e = same_list b r (same_none b f n) q (sym (add-zero b)) (λ i h. ap f (zero-add i) ∙ e i h) (zero-add (length xs))

-- all that is left
pub same_rest : {b : ℕ} {f n : ℕ → ℕ} {all part : Bool} {k : ℕ} (m next : ℕ) → Same b f n all k → Same (b + k) (λ (i : ℕ). f (k + i)) n part m → k + m ≡ next → all && part ≡ same_from b next f n
same_rest {b} {k = k} m next w v z = (same_part {next = next} (b + k) m _ w v.so_far refl (λ i h. refl) z).so_far

pub same_all : (l : List ℕ) (c : Control) → same_from 0 record_length (number_at c) (number_from l) ≡ numbers_of l c
unfolding numbers_of
same_all l c = below_same _ _ record_length (λ i h. ap (λ (p : ℕ). eqb (number_from l p) (number_at c i)) (zero-add i))

-- ---- written

-- k numbers
pub record Put (b : ℕ) (f : ℕ → ℕ) (l₀ l : List ℕ) (k : ℕ) : Type 0 where
  pub so_far : l ≡ over_from b k f l₀
  pub long : length l ≡ length l₀

pub put_none : (b : ℕ) (f : ℕ → ℕ) (l : List ℕ) → Put b f l l 0
put_none b f l = record { so_far = sym (over_between_none (λ (i : ℕ). f (i - b)) 0 l b) ∙ ap (λ (i : ℕ). over (between b i) (λ (j : ℕ). f (j - b)) l) (sym (add-zero b)); long = refl }

module _ {b : ℕ} {f : ℕ → ℕ} {l₀ l : List ℕ} {k : ℕ} where
  -- and one more
  pub put_one : {p v : ℕ} → Put b f l₀ l k → p ≡ b + k → p < length l → v ≡ f k → Put b f l₀ (set l p v) (k + 1)
  put_one {p} {v} w e h q =
      let g : b + k - b ≡ k = omega arith in
      record {
        so_far = ap (λ (i : ℕ). set l i v) e
            ∙ turn 0 (λ (i : ℕ). f (i - b)) l₀ l b (b + k) v (omega arith) (omega (arith, w.long)) w.so_far (q ∙ ap f (sym g))
            ∙ ap (λ (i : ℕ). over (between b i) (λ (j : ℕ). f (j - b)) l₀) (add_assoc b k 1);
        long = length-set l p v ∙ w.long;
      }

pub put_end : {b : ℕ} {f : ℕ → ℕ} {l₀ l : List ℕ} {k : ℕ} (m : ℕ) → Put b f l₀ l k → k ≡ m → l ≡ over_from b m f l₀
put_end {b} {f} {l₀} m w e = w.so_far ∙ ap (λ (k : ℕ). over_from b k f l₀) e

-- the first k numbers of a list, copied from place b on
copied : (b : ℕ) (part l : List ℕ) (k : ℕ) → k ≤ length part → b + length part ≤ length l → Put b (number_from part) l (paste l b part k) k
copied b part l zero h g = subst (λ (x : List ℕ). Put b (number_from part) l x 0) (paste_none l b part) (put_none b (number_from part) l)
copied b part l (suc k) h g =
    let w = copied b part l k (omega arith) g in
    let one : Put b (number_from part) l (paste l b part (k + 1)) (k + 1) =
    subst (λ (x : List ℕ). Put b (number_from part) l x (k + 1)) (paste_more l b part k 0 (omega arith) (omega arith)) (put_one w refl (omega (arith, w.long)) refl) in
    rw add-one at one

-- a list copied into a part of another
pub copied_all : (b m : ℕ) (l : List ℕ) {ys part : List ℕ} → ys ≡ part → m ≡ length part → b + length part ≤ length l → put_mid b m l ys ≡ over_from b (length part) (number_from part) l
copied_all b m l {ys} {part} e q h =
    put_mid-paste b m l ys part (length part) e (sym q) refl ∙ put_end (length part) (copied b part l (length part) (omega arith) h) refl

-- ---- written but for the address slots' numbers

abbrev outside_before : ℕ → ℕ → Bool
outside_before k p = ltb p k && outside_slots p

-- those before place k
pub record Outside (c : Control) (l₀ l : List ℕ) (k : ℕ) : Type 0 where
  pub so_far : l ≡ over (outside_before k) (number_at c) l₀

outside_none : (c : Control) (l : List ℕ) → Outside c l l 0
outside_none c l = record { so_far = sym (over_none (outside_before 0) (number_at c) 0 l (λ i. rw (le-ltb i 0 (omega arith)))) }

-- and then the numbers of a list, after which only slots' numbers come before place next
outside_list : {c : Control} {l₀ l l₁ xs ys : List ℕ} {k : ℕ} (next : ℕ) → ys ≡ xs → Outside c l₀ l k → l₁ ≡ over_from k (length ys) (number_from ys) l → k + length xs ≤ next
    → ((i : ℕ) → i < length xs → (outside_slots (k + i) ≡ true) × (number_at c (k + i) ≡ number_from xs i))
    → ((p : ℕ) → k + length xs ≤ p → p < next → outside_slots p ≡ false) → Outside c l₀ l₁ next
outside_list {c} {l₀} {xs = xs} {k = k} next r w e h new none =
    record {
      so_far = e ∙ (λ j. over_from k (length (r j)) (number_from (r j)) (w.so_far j))
          ∙ over_twice 0 (outside_before k) (within k (length xs)) (outside_before next) _ _ (number_at c) l₀ written (λ p f. (kept p f, λ t. refl));
    }
  where
    written : (p : ℕ) → within k (length xs) p ≡ true → (outside_before next p ≡ true) × (number_from xs (p - k) ≡ number_at c p)
    written p t =
        let y = within_true k (length xs) p t in
        let j : k + (p - k) ≡ p = omega arith in
        let n = new (p - k) (omega arith) in
        (rw (lt-ltb p next (omega arith)) (ap outside_slots (sym j) ∙ n.0), sym n.1 ∙ ap (number_at c) j)

    after : (p : ℕ) → within k (length xs) p ≡ false → k ≤ p → outside_before next p ≡ false
    after p f g =
        split (ltb p (k + length xs)) (λ t. absurd (true≢false (sym (between_in k (k + length xs) p g (ltb-true p (k + length xs) t)) ∙ f)))
        (λ t. split (ltb p next) (λ u. rw u (none p (ltb-false p (k + length xs) t) (ltb-true p next u))) (λ u. rw u))

    kept : (p : ℕ) → within k (length xs) p ≡ false → outside_before next p ≡ outside_before k p
    kept p f = split (ltb p k) (λ t. rw (t, lt-ltb p next (omega (arith, ltb-true p k t)))) (λ t. rw t (after p f (ltb-false p k t)))

module _ {c : Control} {l₀ l₁ ys : List ℕ} where
  -- what the threads share
  pub outside_shared : ys ≡ shared_numbers c.settings c.a c.b c.last → l₁ ≡ over_from 0 (length ys) (number_from ys) l₀ → Outside c l₀ l₁ shared_length
  unfolding outside_slots
  outside_shared r e =
      outside_list shared_length r (outside_none c l₀) e (omega arith)
      (λ i h. let j : 0 + i ≡ i = zero-add i in (rw (j, lt-ltb i shared_length h), ap (number_at c) j ∙ shared_at c i h)) (λ p g h. absurd (omega arith))

  -- and then thread t's own numbers
  pub outside_thread : {l : List ℕ} (t : ℕ) → ys ≡ own_numbers (thread_at c t) → Outside c l₀ l (shared_length + thread_length * t)
      → l₁ ≡ over_from (shared_length + thread_length * t) (length ys) (number_from ys) l → Outside c l₀ l₁ (shared_length + thread_length * (t + 1))
  unfolding outside_slots
  outside_thread t r w e =
      let b = shared_length + thread_length * t in
      outside_list (shared_length + thread_length * (t + 1)) r w e (omega arith)
      (λ i h. (rw (le-ltb (b + i) shared_length (omega arith), lt-ltb ((b + i - shared_length) % thread_length) own_length (omega arith)), thread_from_lem c t i (b + i) (omega arith) refl ∙ own_at_lem (thread_at c t) i h))
      (λ p g h. rw (le-ltb p shared_length (omega arith), le-ltb ((p - shared_length) % thread_length) own_length (omega arith)))

-- all of them
pub outside_all : (c : Control) {l₀ l : List ℕ} → Outside c l₀ l record_length → length l₀ ≡ record_length → l ≡ but_slots_over c l₀
unfolding but_slots_over
outside_all c {l₀} w h =
    w.so_far ∙ over_agree (outside_before record_length) outside_slots (number_at c) (number_at c) 0 l₀ (λ i b. rw (lt-ltb i record_length (omega arith))) (λ i b t. refl)
    ∙ simp (eq-eqb _ _ h)
