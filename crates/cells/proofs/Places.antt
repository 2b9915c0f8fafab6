-- Laws of rows of either width. Each width shows the first four (`at_over`, `length_at`, `past_end`, `ext_at`); all others follow from these, once
-- over the width. Then what a store to one half leaves. Assumes nothing.
use mathlib.Core.Path.{◌≡◌, refl, sym, ap, ◌∙◌}
use mathlib.Core.Logic.{◌≢◌}
use mathlib.Core.Bool.{Bool, true, false, cond}
use mathlib.Core.List.{List}
use Prim.Native.Nat.{ℕ, ◌+◌, ◌-◌, ◌*◌, ◌/◌, ◌%◌, ◌<◌, ◌≤◌}
use native.Mathlib.Nat.{div-add-mod'}
use native.Mathlib.Omega.{arith}
use lib.ListN.{length, get_or, set, length-set, get_or-eq_default}
use lib.Seq.{ext_get_or, get_or-set_same, get_or-set_other}
use lib.Dec.{ltb, eqb}
use borrow.Author.Tests.{ltb-true, ltb-false, eqb-true, eqb-false, lt-ltb, le-ltb}
use Rattle.cells.specs.Layout.{cell}
use Rattle.cells.specs.declared.Width.{Width}
use Rattle.cells.specs.declared.Width.TheVariants.{Bits32, Bits16}
use Rattle.cells.specs.Cells.{between, within}
use Rattle.cells.specs.Places.{limit_of, places_of, kept_in, half_at, halves, over_halves, get_at, over_at}
use Rattle.cells.proofs.Cells.{split, length_mapi, get_d_mapi, length_over, over_in, over_out, between_true, between_in, between_after, between_rows, none_between, more, apart}

-- ---- halves

-- a half, old or new, is below 65536
half_lt : (b : Bool) (u v : ℕ) → cond b (u % 65536) (v % 65536) < 65536
half_lt true u v = omega arith
half_lt false u v = omega arith

low_half : (h l : ℕ) → l < 65536 → (h * 65536 + l) % 65536 ≡ l
low_half h l b = omega arith

high_half : (h l : ℕ) → l < 65536 → (h * 65536 + l) / 65536 ≡ h
high_half h l b = omega arith

length_halves : (p : ℕ → Bool) (f : ℕ → ℕ) (d : List ℕ) → length (over_halves p f d) ≡ length d
unfolding over_halves
length_halves p f d = length_mapi 0 _ d

number_at_lem : (p : ℕ → Bool) (f : ℕ → ℕ) (d : List ℕ) (i : ℕ) → i < length d → get_or (over_halves p f d) i 0 ≡ halves p f (length d) i (get_or d i 0)
unfolding over_halves
number_at_lem p f d i h = get_d_mapi _ d i 0 h

pub half_low : (d : List ℕ) (i : ℕ) → i < length d → half_at d i ≡ get_or d i 0 % 65536
unfolding half_at
half_low d i h = rw (lt-ltb i (length d) h)

pub half_high : (d : List ℕ) (i : ℕ) → length d ≤ i → half_at d i ≡ get_or d (i - length d) 0 / 65536
unfolding half_at
half_high d i h = rw (le-ltb i (length d) h)

-- ---- what each width shows

-- the number at a place: the new one where p holds, and the old one elsewhere
pub at_over : (w : Width) (p : ℕ → Bool) (f : ℕ → ℕ) (d : List ℕ) (i : ℕ) → i < places_of w (length d)
    → get_at w (over_at w p f d) i ≡ cond (p i) (kept_in w (f i)) (get_at w d i)
unfolding get_at over_at
at_over Bits32 p f d i h = split (p i) (λ e. over_in p f d i 0 e h ∙ rw e) (λ e. over_out p f d i 0 e ∙ rw e)
at_over Bits16 p f d i h =
    split (ltb i (length d))
    (λ t.
    let l : i < length d = ltb-true i (length d) t in
    half_low (over_halves p f d) i (rw length_halves l)
    ∙ ap (λ (x : ℕ). x % 65536) (number_at_lem p f d i l)
    ∙ low_half _ _ (half_lt (p i) (f i) (get_or d i 0))
    ∙ ap (cond (p i) (f i % 65536)) (sym (half_low d i l)))
    (λ t.
    let l : length d ≤ i = ltb-false i (length d) t in
    let j = i - length d in
    let e : length d + j ≡ i = omega arith in
    half_high (over_halves p f d) i (rw length_halves l)
    ∙ ap (λ (n : ℕ). get_or (over_halves p f d) (i - n) 0 / 65536) (length_halves p f d)
    ∙ ap (λ (x : ℕ). x / 65536) (number_at_lem p f d j (omega arith))
    ∙ high_half _ _ (half_lt (p j) (f j) (get_or d j 0))
    ∙ ap (λ (k : ℕ). cond (p k) (f k % 65536) (get_or d j 0 / 65536)) e
    ∙ ap (cond (p i) (f i % 65536)) (sym (half_high d i l)))

pub length_at : (w : Width) (p : ℕ → Bool) (f : ℕ → ℕ) (d : List ℕ) → length (over_at w p f d) ≡ length d
unfolding over_at
length_at Bits32 p f d = length_over p f d
length_at Bits16 p f d = length_halves p f d

pub past_end : (w : Width) (d : List ℕ) (i : ℕ) → places_of w (length d) ≤ i → get_at w d i ≡ 0
unfolding get_at
past_end Bits32 d i h = get_or-eq_default d 0 h
past_end Bits16 d i h = half_high d i (omega arith) ∙ ap (λ (x : ℕ). x / 65536) (get_or-eq_default d 0 (omega arith))

-- the numbers of a file of 32-bit numbers are below the limit of the width
pub at_limit : (w : Width) (d : List ℕ) (p : ℕ) → ((i : ℕ) → get_or d i 0 < limit_of Bits32) → get_at w d p < limit_of w
unfolding get_at
at_limit Bits32 d p h = h p
at_limit Bits16 d p h =
    split (ltb p (length d)) (λ t. rw (half_low d p (ltb-true p (length d) t)) (omega arith))
    (λ t. rw (half_high d p (ltb-false p (length d) t)) (omega (arith, h (p - length d))))

-- two lists that hold the same numbers are the same: there is nothing else in a lent number
pub ext_at : (w : Width) (d e : List ℕ) → length d ≡ length e → ((i : ℕ) → i < places_of w (length d) → get_at w d i ≡ get_at w e i) → d ≡ e
unfolding get_at
ext_at Bits32 d e l h = ext_get_or 0 d e l h
ext_at Bits16 d e l h =
    ext_get_or 0 d e l
    (λ i b.
    let n = length d in
    let at : n + i - n ≡ i = omega arith in
    let at' : n + i - length e ≡ i = omega arith in
    let low : get_or d i 0 % 65536 ≡ get_or e i 0 % 65536 = sym (half_low d i b) ∙ h i (omega arith) ∙ half_low e i (omega arith) in
    let high : get_or d i 0 / 65536 ≡ get_or e i 0 / 65536 =
    ap (λ (k : ℕ). get_or d k 0 / 65536) (sym at) ∙ sym (half_high d (n + i) (omega arith)) ∙ h (n + i) (omega arith) ∙ half_high e (n + i) (omega arith) ∙ ap (λ (k : ℕ). get_or e k 0 / 65536) at' in
    sym (div-add-mod' (get_or d i 0) 65536) ∙ (λ t. high t * 65536 + low t) ∙ div-add-mod' (get_or e i 0) 65536)

-- ---- what follows for both

module _ (w : Width) where
  -- read inside what was written, the new number
  pub at_in : (p : ℕ → Bool) (f : ℕ → ℕ) (d : List ℕ) (i : ℕ) → p i ≡ true → i < places_of w (length d) → get_at w (over_at w p f d) i ≡ kept_in w (f i)
  at_in p f d i e h = at_over w p f d i h ∙ rw e

  -- and outside the old one: a half is kept_in when the other is written
  pub at_out : (p : ℕ → Bool) (f : ℕ → ℕ) (d : List ℕ) (i : ℕ) → p i ≡ false → get_at w (over_at w p f d) i ≡ get_at w d i
  at_out p f d i e =
      split (ltb i (places_of w (length d)))
      (λ t. at_over w p f d i (ltb-true i _ t) ∙ rw e)
      (λ t. past_end w (over_at w p f d) i (rw length_at (ltb-false i _ t)) ∙ sym (past_end w d i (ltb-false i _ t)))

  -- overwritten twice: at the places q with what h gives, elsewhere as by p and f
  pub at_twice : (p q r : ℕ → Bool) (f g h : ℕ → ℕ) (d : List ℕ)
      → ((i : ℕ) → i < places_of w (length d) → q i ≡ true → (r i ≡ true) × (g i ≡ h i))
      → ((i : ℕ) → i < places_of w (length d) → q i ≡ false → (r i ≡ p i) × (p i ≡ true → f i ≡ h i))
      → over_at w q g (over_at w p f d) ≡ over_at w r h d
  at_twice p q r f g h d new old =
      ext_at w _ _ (length_at w q g (over_at w p f d) ∙ length_at w p f d ∙ sym (length_at w r h d))
      (λ i b.
      let b' : i < places_of w (length (over_at w p f d)) = rw length_at at b in
      let c : i < places_of w (length d) = rw length_at at b' in
      split (q i) (λ e. at_in q g (over_at w p f d) i e b' ∙ ap (kept_in w) (new i c e).1 ∙ sym (at_in r h d i (new i c e).0 c))
      (λ e.
      at_out q g (over_at w p f d) i e
      ∙ split (p i) (λ t. at_in p f d i t c ∙ ap (kept_in w) ((old i c e).1 t) ∙ sym (at_in r h d i ((old i c e).0 ∙ t) c)) (λ t. at_out p f d i t ∙ sym (at_out r h d i ((old i c e).0 ∙ t)))))

  -- two rules that agree at each place overwrite alike
  pub at_agree : (p q : ℕ → Bool) (f g : ℕ → ℕ) (d : List ℕ) → ((i : ℕ) → i < places_of w (length d) → p i ≡ q i)
      → ((i : ℕ) → i < places_of w (length d) → q i ≡ true → f i ≡ g i) → over_at w p f d ≡ over_at w q g d
  at_agree p q f g d same new =
      ext_at w _ _ (length_at w p f d ∙ sym (length_at w q g d))
      (λ i b.
      let c : i < places_of w (length d) = rw length_at at b in
      split (q i)
      (λ e. at_in p f d i (same i c ∙ e) c ∙ ap (kept_in w) (new i c e) ∙ sym (at_in q g d i e c))
      (λ e. at_out p f d i (same i c ∙ e) ∙ sym (at_out q g d i e)))

  -- no place of the list
  pub at_none : (p : ℕ → Bool) (f : ℕ → ℕ) (d : List ℕ) → ((i : ℕ) → i < places_of w (length d) → p i ≡ false) → over_at w p f d ≡ d
  at_none p f d h = ext_at w _ _ (length_at w p f d) (λ i b. at_out p f d i (h i (rw length_at at b)))

  pub at_between_none : (f : ℕ → ℕ) (d : List ℕ) (lo hi : ℕ) → hi ≤ lo → over_at w (between lo hi) f d ≡ d
  at_between_none f d lo hi h = at_none (between lo hi) f d (λ i b. none_between lo hi i h)

  -- a span's rows, by their numbers' places
  pub rows_at : (lo count : ℕ) (f : ℕ → ℕ) (d : List ℕ) → over_at w (between (lo * 16) (lo * 16 + count * 16)) f d ≡ over_at w (λ i. within lo count (i / 16)) f d
  rows_at lo count f d =
      at_agree _ _ f f d (λ i b. ap (λ (h : ℕ). between (lo * 16) h i) (omega arith) ∙ sym (between_rows lo (lo + count) i)) (λ i b e. refl)

  -- a stretch on, with what f gives there
  pub at_join : (f g : ℕ → ℕ) (d₀ d : List ℕ) (lo mid hi : ℕ) → lo ≤ mid → mid ≤ hi → d ≡ over_at w (between lo mid) f d₀
      → ((i : ℕ) → mid ≤ i → i < hi → g i ≡ f i) → over_at w (between mid hi) g d ≡ over_at w (between lo hi) f d₀
  at_join f g d₀ d lo mid hi l h e new =
      ap (over_at w (between mid hi) g) e
      ∙ at_twice (between lo mid) (between mid hi) (between lo hi) f g f d₀
      (λ i b t.
      let s = between_true mid hi i t in
      (between_in lo hi i (omega (arith, s.0)) s.1, new i s.0 s.1))
      (λ i b t. (more lo mid hi i l h t, λ _. refl))

  -- the turn of a loop: one place more
  pub turn_at : (f : ℕ → ℕ) (d₀ d : List ℕ) (lo k v : ℕ) → lo ≤ k → d ≡ over_at w (between lo k) f d₀ → v ≡ f k
      → over_at w (within k 1) (λ i. v) d ≡ over_at w (between lo (k + 1)) f d₀
  turn_at f d₀ d lo k v a e new =
      at_join f (λ i. v) d₀ d lo k (k + 1) a (omega arith) e (λ i l h. let same : k ≡ i = omega arith in new ∙ ap f same)

  -- what the loop has not come to is as it was
  pub ahead_at : (f : ℕ → ℕ) (d₀ d : List ℕ) (lo k p : ℕ) → k ≤ p → d ≡ over_at w (between lo k) f d₀ → get_at w d p ≡ get_at w d₀ p
  ahead_at f d₀ d lo k p h e = ap (λ (l : List ℕ). get_at w l p) e ∙ at_out (between lo k) f d₀ p (between_after lo k p h)

-- ---- a store of one place

-- number j gets the half of place p anew, and no other number has that place
store_half : (d : List ℕ) (p v j y : ℕ) → j < length d → y ≡ halves (within p 1) (λ i. v) (length d) j (get_or d j 0)
    → ((i : ℕ) → i < length d → i ≢ j → (i ≢ p) × (length d + i ≢ p)) → set d j y ≡ over_halves (within p 1) (λ i. v) d
store_half d p v j y h new others =
    ext_get_or 0 _ _ (length-set d j y ∙ sym (length_halves _ _ d))
    (λ i b.
    let c : i < length d = rw length-set at b in
    split (eqb i j)
    (λ e. let e' : i ≡ j = eqb-true i j e in rw e' (get_or-set_same d j y 0 h ∙ new ∙ sym (number_at_lem _ _ d j h)))
    (λ e.
    let n = eqb-false i j e in
    get_or-set_other d j i y 0 n
    ∙ sym (div-add-mod' (get_or d i 0) 65536)
    ∙ (λ t.
    cond (sym (apart p (length d + i) (others i c n).1) t) (v % 65536) (get_or d i 0 / 65536) * 65536 + cond (sym (apart p i (others i c n).0) t) (v % 65536) (get_or d i 0 % 65536))
    ∙ sym (number_at_lem _ _ d i c)))

pub store_low : (d : List ℕ) (p v : ℕ) → p < length d → set d p (get_or d p 0 / 65536 * 65536 + v % 65536) ≡ over_halves (within p 1) (λ i. v) d
store_low d p v h =
    store_half d p v p _ h
    (λ t. cond (sym (apart p (length d + p) (λ e. omega arith)) t) (v % 65536) (get_or d p 0 / 65536) * 65536 + cond (sym (between_in p (p + 1) p (omega arith) (omega arith)) t) (v % 65536) (get_or d p 0 % 65536))
    (λ i c n. (n, λ e. omega arith))

pub store_high : (d : List ℕ) (p v : ℕ) → length d ≤ p → p - length d < length d
    → set d (p - length d) (v % 65536 * 65536 + get_or d (p - length d) 0 % 65536) ≡ over_halves (within p 1) (λ i. v) d
store_high d p v l h =
    let j = p - length d in
    store_half d p v j _ h
    (λ t. cond (sym (between_in p (p + 1) (length d + j) (omega arith) (omega arith)) t) (v % 65536) (get_or d j 0 / 65536) * 65536 + cond (sym (apart p j (λ e. omega arith)) t) (v % 65536) (get_or d j 0 % 65536))
    (λ i c n. (λ e. omega arith, λ e. n (omega arith)))

-- ---- rows of 16-bit numbers in the order's words

-- row r below 512 is the low half of lent row r, and row r from 512 up the high half of lent row r - 512
module _ (d : List ℕ) (long : length d ≡ 8192) (r j : ℕ) (column : j < 16) where
  pub low_row : r < 512 → get_at Bits16 d (cell r j) ≡ get_or d (cell r j) 0 % 65536
  unfolding get_at
  low_row h = half_low d (cell r j) (omega arith)

  pub high_row : 512 ≤ r → get_at Bits16 d (cell r j) ≡ get_or d (cell (r - 512) j) 0 / 65536
  unfolding get_at
  high_row h =
      let e : cell r j - length d ≡ cell (r - 512) j = omega arith in
      half_high d (cell r j) (omega arith) ∙ ap (λ (k : ℕ). get_or d k 0 / 65536) e
