-- Laws of rows that lie in one part of their numbers: a store there, the turn of a loop over its numbers, and the parts of a width together.
-- Assumes nothing.
use mathlib.Core.Path.{◌≡◌, refl, sym, ap, ap₂, ◌∙◌}
use mathlib.Core.Bool.{true, ◌&&◌}
use mathlib.Core.List.{List, ◌++◌}
use Prim.Native.Nat.{ℕ, ◌+◌, ◌-◌, ◌*◌, ◌/◌, ◌%◌, ◌<◌, ◌≤◌}
use native.Mathlib.Nat.{le_refl}
use native.Mathlib.Omega.{arith}
use lib.ListN.{length, get_or, set, take, drop}
use Rattle.std.proofs.lemmas.List.{take-append-drop, length-take-le, length-drop, get_or-append_right, get_or_append_left, set-append_right, set-append_left}
use lib.Dec.{leb, ltb}
use borrow.Author.Tests.{leb-true, leb-false, ltb-true, ltb-false, le-leb, lt-leb, lt-ltb, le-ltb}
use Rattle.cells.specs.declared.Width.{Width}
use Rattle.cells.specs.declared.Width.TheVariants.{Bits32, Bits16}
use Rattle.cells.specs.declared.Part.{Part}
use Rattle.cells.specs.declared.Part.TheVariants.{Whole, Low, High}
use Rattle.cells.specs.Cells.{between, within}
use Rattle.cells.specs.Places.{get_at, over_at}
use Rattle.cells.specs.Parts.{width_in, held_in, with_part, place_in, number_in, part_at, cut, cut_in, over_part}
use Rattle.cells.proofs.Cells.{split, both, set_one, between_after}
use Rattle.cells.proofs.Places.{half_low, half_high, length_at, at_agree, at_twice, at_between_none, turn_at, ahead_at, store_low, store_high}

-- ---- one number of a part

-- k numbers on
pub place_on : (a : Part) (n i k : ℕ) → place_in a n (i + k) ≡ place_in a n i + k
place_on Whole n i k = refl
place_on Low n i k = refl
place_on High n i k = omega arith

pub place_up : (a : Part) (n lo i : ℕ) → lo ≤ i → place_in a n lo ≤ place_in a n i
place_up Whole n lo i h = h
place_up Low n lo i h = h
place_up High n lo i h = omega arith

pub get_part : (a : Part) (d : List ℕ) (i : ℕ) → i < length d → held_in a (get_or d i 0) ≡ get_at (width_in a) d (place_in a (length d) i)
unfolding get_at
get_part Whole d i h = refl
get_part Low d i h = sym (half_low d i h)
get_part High d i h =
    let e : length d + i - length d ≡ i = omega arith in
    sym (half_high d (length d + i) (omega arith) ∙ ap (λ (k : ℕ). get_or d k 0 / 65536) e)

pub store_part : (a : Part) (d : List ℕ) (i v : ℕ) → i < length d → set d i (with_part a (get_or d i 0) v) ≡ over_at (width_in a) (within (place_in a (length d) i) 1) (λ k. v) d
unfolding over_at
store_part Whole d i v h = set_one 0 v d i h
store_part Low d i v h = store_low d i v h
store_part High d i v h =
    let e : length d + i - length d ≡ i = omega arith in
    ap (λ (k : ℕ). set d k (v % 65536 * 65536 + get_or d k 0 % 65536)) (sym e) ∙ store_high d (length d + i) v (omega arith) (omega arith)

-- the number at a place of the part where it lies stands at that place
pub place_number : (w : Width) (n p : ℕ) → place_in (part_at w n p) n (number_in (part_at w n p) n p) ≡ p
place_number Bits32 n p = refl
place_number Bits16 n p = split (ltb p n) (λ t. rw t) (λ t. rw t (omega (arith, ltb-false p n t)))

pub width_at : (w : Width) (n p : ℕ) → width_in (part_at w n p) ≡ w
width_at Bits32 n p = refl
width_at Bits16 n p = split (ltb p n) (λ t. rw t) (λ t. rw t)

-- ---- a loop over the numbers of a part

module _ (a : Part) (f : ℕ → ℕ) (d₀ : List ℕ) where
  -- what it leaves from number lo on and before number k
  unfoldable pub gone : ℕ → ℕ → List ℕ
  gone lo k = over_at (width_in a) (between (place_in a (length d₀) lo) (place_in a (length d₀) k)) f d₀

  pub gone_none : (lo : ℕ) → d₀ ≡ gone lo lo
  unfolding gone
  gone_none lo = sym (at_between_none (width_in a) f d₀ (place_in a (length d₀) lo) (place_in a (length d₀) lo) (le_refl _))

  pub gone_length : (d : List ℕ) (lo k : ℕ) → d ≡ gone lo k → length d ≡ length d₀
  unfolding gone
  gone_length d lo k e = ap length e ∙ length_at (width_in a) _ f d₀

  -- number k holds there what it held before
  pub gone_ahead : (d : List ℕ) (lo k : ℕ) → k < length d₀ → d ≡ gone lo k → held_in a (get_or d k 0) ≡ get_at (width_in a) d₀ (place_in a (length d₀) k)
  unfolding gone
  gone_ahead d lo k h e =
      let n : length d ≡ length d₀ = gone_length d lo k e in
      get_part a d k (omega arith)
      ∙ ap (λ (m : ℕ). get_at (width_in a) d (place_in a m k)) n
      ∙ ahead_at (width_in a) f d₀ d (place_in a (length d₀) lo) (place_in a (length d₀) k) (place_in a (length d₀) k) (omega arith) e

  -- the turn: number k gets its part anew
  pub gone_on : (d : List ℕ) (lo k v y : ℕ) → lo ≤ k → k < length d₀ → d ≡ gone lo k → v ≡ f (place_in a (length d₀) k) → y ≡ with_part a (get_or d k 0) v
      → set d k y ≡ gone lo (k + 1)
  unfolding gone
  gone_on d lo k v y l h e new is =
      let n : length d ≡ length d₀ = gone_length d lo k e in
      let p : place_in a (length d) k ≡ place_in a (length d₀) k = ap (λ (m : ℕ). place_in a m k) n in
      ap (set d k) is
      ∙ store_part a d k v (omega arith)
      ∙ ap (λ (q : ℕ). over_at (width_in a) (within q 1) (λ i. v) d) p
      ∙ turn_at (width_in a) f d₀ d (place_in a (length d₀) lo) (place_in a (length d₀) k) v (place_up a (length d₀) lo k l) e new
      ∙ ap (λ (q : ℕ). over_at (width_in a) (between (place_in a (length d₀) lo) q) f d₀) (sym (place_on a (length d₀) k 1))

-- ---- a stretch of places, part by part

cut_most : (n p : ℕ) → cut n p ≤ n
cut_most n p = split (ltb p n) (λ t. rw t (omega (arith, ltb-true p n t))) (λ t. rw t (omega arith))

cut_up : (n p q : ℕ) → p ≤ q → cut n p ≤ cut n q
cut_up n p q h =
    split (ltb q n) (λ t. rw (t, lt-ltb p n (omega (arith, ltb-true q n t))) h) (λ t. rw t (cut_most n p))

cut_in_most : (a : Part) (n p : ℕ) → cut_in a n p ≤ n
cut_in_most a n p = cut_most n (number_in a n p)

number_up : (a : Part) (n p q : ℕ) → p ≤ q → number_in a n p ≤ number_in a n q
number_up Whole n p q h = h
number_up Low n p q h = h
number_up High n p q h = omega arith

cut_in_up : (a : Part) (n p q : ℕ) → p ≤ q → cut_in a n p ≤ cut_in a n q
cut_in_up a n p q h = cut_up n (number_in a n p) (number_in a n q) (number_up a n p q h)

-- the numbers of the stretch stand at its places
place_after_cut : (n lo i : ℕ) → cut n lo ≤ i → i < n → lo ≤ i
place_after_cut n lo i h l = split (ltb lo n) (λ t. rw t at h) (λ t. absurd (let g : n ≤ i = rw t at h in omega arith))

place_after : (a : Part) (n lo i : ℕ) → cut_in a n lo ≤ i → i < n → lo ≤ place_in a n i
place_after Whole n lo i h l = place_after_cut n lo i h l
place_after Low n lo i h l = place_after_cut n lo i h l
place_after High n lo i h l = omega (arith, place_after_cut n (lo - n) i h l)

place_before_cut : (n hi i : ℕ) → i < cut n hi → i < hi
place_before_cut n hi i h = split (ltb hi n) (λ t. rw t at h) (λ t. let g : i < n = rw t at h in omega (arith, ltb-false hi n t))

place_before : (a : Part) (n hi i : ℕ) → i < cut_in a n hi → place_in a n i < hi
place_before Whole n hi i h = place_before_cut n hi i h
place_before Low n hi i h = place_before_cut n hi i h
place_before High n hi i h = omega (arith, place_before_cut n (hi - n) i h)

-- below n nothing is cut away
cut_between : (n lo hi i : ℕ) → i < n → between (cut n lo) (cut n hi) i ≡ between lo hi i
unfolding between
cut_between n lo hi i h = ap₂ ◌&&◌ low high
  where
    low : leb (cut n lo) i ≡ leb lo i
    low = split (ltb lo n) (λ t. rw t) (λ t. rw (t, lt-leb n i h, lt-leb lo i (omega (arith, ltb-false lo n t))))

    high : ltb i (cut n hi) ≡ ltb i hi
    high = split (ltb hi n) (λ t. rw t) (λ t. rw (t, lt-ltb i n h, lt-ltb i hi (omega (arith, ltb-false hi n t))))

-- the same from n places on
moved : (n a b i : ℕ) → n ≤ i → between (n + a) (n + b) i ≡ between a b (i - n)
unfolding between
moved n a b i h =
    ap₂ ◌&&◌
    (split (leb a (i - n)) (λ t. le-leb (n + a) i (omega (arith, leb-true a (i - n) t)) ∙ sym t) (λ t. lt-leb (n + a) i (omega (arith, leb-false a (i - n) t)) ∙ sym t))
    (split (ltb (i - n) b) (λ t. lt-ltb i (n + b) (omega (arith, ltb-true (i - n) b t)) ∙ sym t) (λ t. le-ltb i (n + b) (omega (arith, ltb-false (i - n) b t)) ∙ sym t))

back : (n lo hi i : ℕ) → n ≤ i → between (lo - n) (hi - n) (i - n) ≡ between lo hi i
unfolding between
back n lo hi i h =
    ap₂ ◌&&◌
    (split (leb lo i) (λ t. le-leb (lo - n) (i - n) (omega (arith, leb-true lo i t)) ∙ sym t) (λ t. lt-leb (lo - n) (i - n) (omega (arith, leb-false lo i t)) ∙ sym t))
    (split (ltb i hi) (λ t. lt-ltb (i - n) (hi - n) (omega (arith, ltb-true i hi t)) ∙ sym t) (λ t. le-ltb (i - n) (hi - n) (omega (arith, ltb-false i hi t)) ∙ sym t))

-- among the high halves the stretch is what goes past n
high_between : (n lo hi i : ℕ) → n ≤ i → i < n + n → between (n + cut n (lo - n)) (n + cut n (hi - n)) i ≡ between lo hi i
high_between n lo hi i h l = moved n (cut n (lo - n)) (cut n (hi - n)) i h ∙ cut_between n (lo - n) (hi - n) (i - n) (omega arith) ∙ back n lo hi i h

within_high : (n a b i : ℕ) → between (n + a) (n + b) i ≡ true → n ≤ i
unfolding between
within_high n a b i e = omega (arith, leb-true (n + a) i (both (leb (n + a) i) (ltb i (n + b)) e).0)

-- ---- a loop over the numbers of a stretch that lie in a part: it has come from number `from` to number i, and goes to number `to`

pub record Going (a : Part) (f : ℕ → ℕ) (d₀ : List ℕ) (lo hi from to : ℕ) (d : List ℕ) (i : ℕ) : Type 0 where
  pub is : d ≡ gone a f d₀ from i
  pub low : from ≡ cut_in a (length d₀) lo
  pub high : to ≡ cut_in a (length d₀) hi
  pub least : from ≤ i
  pub most : i ≤ to

module _ (a : Part) (f : ℕ → ℕ) (d₀ : List ℕ) (lo hi from to : ℕ) where
  pub going_start : lo ≤ hi → from ≡ cut_in a (length d₀) lo → to ≡ cut_in a (length d₀) hi → Going a f d₀ lo hi from to d₀ from
  going_start h l r =
      record { is = gone_none a f d₀ from; low = l; high = r; least = le_refl from; most = rw (l, r) (cut_in_up a (length d₀) lo hi h) }

  module _ (d : List ℕ) (i : ℕ) (g : Going a f d₀ lo hi from to d i) where
    pub going_length : length d ≡ length d₀
    going_length = gone_length a f d₀ d from i g.is

    -- the number that it has come to, and its place
    pub first_inside : i < to → i < length d₀
    first_inside h = omega (arith, g.high, cut_in_most a (length d₀) hi)

    pub going_inside : i < to → i < length d
    going_inside h = omega (arith, going_length, first_inside h)

    pub going_place : i < to → lo ≤ place_in a (length d₀) i
    going_place h = place_after a (length d₀) lo i (omega (arith, g.low, g.least)) (first_inside h)

    pub going_before : i < to → place_in a (length d₀) i < hi
    going_before h = place_before a (length d₀) hi i (rw g.high at h)

    pub going_on : (v y : ℕ) → i < to → v ≡ f (place_in a (length d₀) i) → y ≡ with_part a (get_or d i 0) v → Going a f d₀ lo hi from to (set d i y) (i + 1)
    going_on v y h new is =
        record {
          is = gone_on a f d₀ d from i v y g.least (first_inside h) g.is new is;
          low = g.low;
          high = g.high;
          least = omega (arith, g.least);
          most = omega arith;
        }

    pub going_end : to ≤ i → d ≡ over_part a lo hi f d₀
    unfolding over_part gone
    going_end h =
        let all : i ≡ to = omega (arith, g.most) in
        g.is ∙ (λ t. gone a f d₀ (g.low t) ((all ∙ g.high) t))

-- The numbers from number `from` on and before number `to` are these.
abbrev pub around : List ℕ → ℕ → ℕ → List ℕ → List ℕ
around d from to s = take from d ++ (s ++ drop (to - from) (drop from d))

module _ (a : Part) (f : ℕ → ℕ) (d₀ : List ℕ) (lo hi from to : ℕ) (h : lo ≤ hi) (low : from ≡ cut_in a (length d₀) lo) (high : to ≡ cut_in a (length d₀) hi) where
  cut_order : from ≤ to
  cut_order = rw (low, high) (cut_in_up a (length d₀) lo hi h)

  cut_within : to ≤ length d₀
  cut_within = rw high (cut_in_most a (length d₀) hi)

  pub around_length : length (take (to - from) (drop from d₀)) ≡ to - from
  around_length = length-take-le (to - from) (drop from d₀) (omega (arith, length-drop from d₀, cut_order, cut_within))

  -- a loop over those numbers: they begin as they were
  pub around_start : around d₀ from to (take (to - from) (drop from d₀)) ≡ gone a f d₀ from (from + 0)
  around_start =
      ap (λ (s : List ℕ). take from d₀ ++ s) (take-append-drop (to - from) (drop from d₀))
      ∙ take-append-drop from d₀
      ∙ gone_none a f d₀ from
      ∙ ap (gone a f d₀ from) (omega arith)

  -- and one more has its part anew
  pub around_on : (s : List ℕ) (i v y : ℕ) → around d₀ from to s ≡ gone a f d₀ from (from + i) → i < length s → length s ≡ to - from → v ≡ f (place_in a (length d₀) (from + i)) → y ≡ with_part a (get_or s i 0) v
      → around d₀ from to (set s i y) ≡ gone a f d₀ from (from + (i + 1))
  around_on s i v y e l n new is =
      let front : length (take from d₀) ≡ from = length-take-le from d₀ (omega (arith, cut_order, cut_within)) in
      let rest = drop (to - from) (drop from d₀) in
      let at : from + i - from ≡ i = omega arith in
      let held : get_or (around d₀ from to s) (from + i) 0 ≡ get_or s i 0 =
      get_or-append_right (take from d₀) (s ++ rest) from (from + i) 0 front (omega arith)
      ∙ ap (λ (k : ℕ). get_or (s ++ rest) k 0) at
      ∙ get_or_append_left s rest 0 i l in
      let store : set (around d₀ from to s) (from + i) y ≡ around d₀ from to (set s i y) =
      set-append_right (take from d₀) (s ++ rest) from (from + i) y front (omega arith)
      ∙ ap (λ (k : ℕ). take from d₀ ++ set (s ++ rest) k y) at
      ∙ ap (λ (r : List ℕ). take from d₀ ++ r) (set-append_left s rest i y l) in
      sym store
      ∙ gone_on a f d₀ (around d₀ from to s) from (from + i) v y (omega arith) (omega (arith, cut_order, cut_within)) e new (is ∙ ap (λ (x : ℕ). with_part a x v) (sym held))
      ∙ ap (gone a f d₀ from) (omega arith)

  pub around_end : (s : List ℕ) (i : ℕ) → around d₀ from to s ≡ gone a f d₀ from (from + i) → i ≡ to - from → around d₀ from to s ≡ over_part a lo hi f d₀
  unfolding over_part gone
  around_end s i e n =
      let all : from + i ≡ to = omega (arith, cut_order) in
      e ∙ (λ t. gone a f d₀ (low t) ((all ∙ high) t))

-- the whole numbers are all places of 32 bits
pub whole_part : (lo hi : ℕ) (f : ℕ → ℕ) (d : List ℕ) → over_part Whole lo hi f d ≡ over_at Bits32 (between lo hi) f d
unfolding over_part
whole_part lo hi f d = at_agree Bits32 _ _ f f d (λ i b. cut_between (length d) lo hi i b) (λ i b e. refl)

-- the low halves and then the high ones are all places of 16 bits
pub both_parts : (lo hi : ℕ) (f : ℕ → ℕ) (d : List ℕ) → over_part High lo hi f (over_part Low lo hi f d) ≡ over_at Bits16 (between lo hi) f d
unfolding over_part
both_parts lo hi f d =
    let n = length d in
    let low = between (cut n lo) (cut n hi) in
    let high = between (n + cut n (lo - n)) (n + cut n (hi - n)) in
    ap (λ (k : ℕ). over_at Bits16 (between (k + cut k (lo - k)) (k + cut k (hi - k))) f (over_at Bits16 low f d)) (length_at Bits16 low f d)
    ∙ at_twice Bits16 low high (between lo hi) f f f d
    (λ i b e. (sym (high_between n lo hi i (within_high n (cut n (lo - n)) (cut n (hi - n)) i e) b) ∙ e, refl))
    (λ i b e. split (ltb i n) (λ t. (sym (cut_between n lo hi i (ltb-true i n t)), λ _. refl))
    (λ t.
    let l : n ≤ i = ltb-false i n t in
    (sym (high_between n lo hi i l b) ∙ e ∙ sym (between_after (cut n lo) (cut n hi) i (omega (arith, cut_most n hi))), λ _. refl)))

-- so a stretch was gone over, by the width
module _ (w : Width) (lo hi : ℕ) (f : ℕ → ℕ) (d₀ d : List ℕ) where
  pub by_whole : w ≡ Bits32 → d ≡ over_part Whole lo hi f d₀ → d ≡ over_at w (between lo hi) f d₀
  by_whole told e = e ∙ whole_part lo hi f d₀ ∙ sym (ap (λ (v : Width). over_at v (between lo hi) f d₀) told)

  pub by_halves : w ≡ Bits16 → (l : List ℕ) → l ≡ over_part Low lo hi f d₀ → d ≡ over_part High lo hi f l → d ≡ over_at w (between lo hi) f d₀
  by_halves told l low high =
      high ∙ ap (over_part High lo hi f) low ∙ both_parts lo hi f d₀ ∙ sym (ap (λ (v : Width). over_at v (between lo hi) f d₀) told)
