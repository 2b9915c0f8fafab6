-- Writing to a text: one list after another, decimal and hexadecimal numbers, and what a text holds in the end. Assumes nothing.
use Rattle.std.specs.Prelude.{Option, None, Some}
use mathlib.Core.Path.{◌≡◌, refl, sym, ap, ◌∙◌}
use mathlib.Core.List.{List, [], ◌∷◌, ◌++◌, append-nil, append_assoc}
use Prim.Native.Nat.{ℕ, zero, suc, ◌+◌, ◌*◌, ◌-◌, ◌/◌, ◌%◌, ◌^◌, ◌≤◌, ◌<◌}
use native.Mathlib.Omega.{arith}
use native.Mathlib.Numerals.{add-one}
use borrow.Author.Tests.{lt-ltb, le-ltb, ltb-true, ltb-false}
use lib.Dec.{ltb}
use lib.ListN.{length, get_or, set, take, drop, length-append, length-set}
use lib.Seq.{drop-cons, take-suc-set}
use Rattle.cells.specs.declared.Width.{Width}
use Rattle.cells.specs.declared.Width.TheVariants.{Bits32, Bits16}
use Rattle.cells.specs.Places.{digits_of, get_at}
use Rattle.cells.proofs.Cells.{split}
use Rattle.word.specs.Refusal.{bit_number}
use Rattle.lines.specs.Lines.{row, value, columns}
use Rattle.lines.specs.Text.{empty_text, pushed, wrote, made, Holds, decimal_up_to, decimal, hex_digit, hex, values, word_row, word_register, text_of, bit_text}
use Rattle.lines.specs.declared.Text.{Text}

-- ---- one list after another

pub wrote_append : (t : Text) (a b : List ℕ) → wrote (wrote t a) b ≡ wrote t (a ++ b)
unfolding wrote
wrote_append t [] b = refl
wrote_append t (x ∷ a) b = wrote_append (pushed t x) a b

pub wrote_one : (t : Text) (x : ℕ) → pushed t x ≡ wrote t (x ∷ [])
unfolding wrote
wrote_one t x = refl

pub wrote_last : (t : Text) (a : List ℕ) (x : ℕ) → pushed (wrote t a) x ≡ wrote t (a ++ x ∷ [])
wrote_last t a x = wrote_one (wrote t a) x ∙ wrote_append t a (x ∷ [])

-- a turn of the loop over a word
pub word_on : (t : Text) (l : List ℕ) (i : ℕ) → i < length l → wrote t (drop i l) ≡ wrote (pushed t (get_or l i 0)) (drop (i + 1) l)
unfolding wrote
word_on t l i h = rw (add-one, drop-cons l i 0)

-- ---- numbers

-- enough digits are the same whatever their bound
enough : (j k n : ℕ) → n ≤ j → n ≤ k → decimal_up_to j n ≡ decimal_up_to k n
unfolding decimal_up_to
enough zero zero n p q = refl
enough zero (suc k) n p q = let e : n ≡ 0 = omega arith in rw e
enough (suc j) zero n p q = let e : n ≡ 0 = omega arith in rw e
enough (suc j) (suc k) n p q =
    split (ltb n 10) (λ e. rw e)
    (λ e.
    let h = ltb-false n 10 e in
    rw e (ap (λ (l : List ℕ). l ++ (48 + n % 10) ∷ []) (enough j k (n / 10) (omega arith) (omega arith))))

pub decimal_one : (n : ℕ) → n < 10 → decimal n ≡ (48 + n) ∷ []
unfolding decimal decimal_up_to
decimal_one zero h = refl
decimal_one (suc n) h = rw (lt-ltb (suc n) 10 h)

pub decimal_more : (n : ℕ) → 10 ≤ n → decimal n ≡ decimal (n / 10) ++ (48 + n % 10) ∷ []
unfolding decimal decimal_up_to
decimal_more zero h = absurd (omega arith)
decimal_more (suc n) h =
    rw (le-ltb (suc n) 10 h) (ap (λ (l : List ℕ). l ++ (48 + suc n % 10) ∷ []) (enough n (suc n / 10) (suc n / 10) (omega arith) (omega arith)))

pub hex_none : (k v : ℕ) → k ≡ 0 → hex k v ≡ []
unfolding hex
hex_none k v e = rw e

pub hex_more : (k v : ℕ) → (k ≡ 0 → ⊥) → hex k v ≡ hex (k - 1) (v / 16) ++ hex_digit (v % 16) ∷ []
unfolding hex
hex_more zero v h = absurd (h refl)
hex_more (suc k) v h = let e : suc k - 1 ≡ k = omega arith in rw e

-- ---- values

module _ (digits : ℕ) where
  pub value_one : (t : Text) (v : ℕ) → wrote (pushed t 32) (hex digits v) ≡ wrote t (values digits (v ∷ []))
  unfolding values wrote
  value_one t v = ap (wrote (pushed t 32)) (sym (append-nil (hex digits v)))

  values_cons : (v : ℕ) (vs : List ℕ) → values digits (v ∷ vs) ≡ values digits (v ∷ []) ++ values digits vs
  unfolding values
  values_cons v vs = ap (λ (l : List ℕ). 32 ∷ l ++ values digits vs) (sym (append-nil (hex digits v)))

module _ (w : Width) (l : List ℕ) where
  columns_cons : (r k n : ℕ) → columns w l r k (suc n) ≡ get_at w l (r * 16 + k) ∷ columns w l r (k + 1) n
  unfolding columns
  columns_cons r k n = rw add-one

  -- a turn of the loop over a row's columns
  pub columns_on : (digits : ℕ) (t : Text) (r k : ℕ) → k < 16
      → wrote t (values digits (columns w l r k (16 - k)))
      ≡ wrote (wrote t (values digits (get_at w l (r * 16 + k) ∷ []))) (values digits (columns w l r (k + 1) (16 - (k + 1))))
  columns_on digits t r k h =
      let e : 16 - k ≡ suc (16 - (k + 1)) = omega arith in
      rw (e, columns_cons, values_cons) (sym (wrote_append t _ _))

  pub columns_done : (digits : ℕ) (t : Text) (r k : ℕ) → 16 ≤ k → wrote t (values digits (columns w l r k (16 - k))) ≡ t
  unfolding wrote values columns
  columns_done digits t r k h = let e : 16 - k ≡ 0 = omega arith in rw e

-- ---- what a text holds in the end

room : (t : Text) (b : ℕ) (l : List ℕ) → t.len < 160 → wrote t (b ∷ l) ≡ wrote (record { bytes = set t.bytes t.len b; len = t.len + 1 }) l
unfolding wrote pushed
room t b l h =
    let p : pushed t b ≡ record { bytes = set t.bytes t.len b; len = t.len + 1 } = rw (lt-ltb t.len 160 h) in
    ap (λ (u : Text). wrote u l) p

-- where there is room the bytes stand after those that were there
kept : (t : Text) (l : List ℕ) → length t.bytes ≡ 160 → t.len + length l ≤ 160
    → ((wrote t l).len ≡ t.len + length l) × (take (wrote t l).len (wrote t l).bytes ≡ take t.len t.bytes ++ l)
unfolding wrote
kept t [] q h = (omega arith, sym (append-nil (take t.len t.bytes)))
kept t (b ∷ l) q h =
    let u : Text = record { bytes = set t.bytes t.len b; len = t.len + 1 } in
    let i = kept u l (length-set t.bytes t.len b ∙ q) (omega arith) in
    let e : take (t.len + 1) (set t.bytes t.len b) ++ l ≡ take t.len t.bytes ++ b ∷ l =
    rw (add-one t.len, take-suc-set t.bytes t.len b (omega arith)) (append_assoc (take t.len t.bytes) (b ∷ []) l) in
    let n : t.len + 1 + length l ≡ t.len + suc (length l) = omega arith in
    rw (room t b l (omega arith)) (i.0 ∙ n, i.1 ∙ e)

pub made_holds : (l : List ℕ) → length l ≤ 160 → Holds (made l) l
unfolding empty_text
made_holds l h =
    let k = kept empty_text l refl (omega arith) in
    let e : (made l).len ≡ length l = k.0 ∙ omega arith in
    record { short = omega arith; size = e; first = k.1 }

-- a text that was made of a list holds it
pub whole : (r : Text) (l : List ℕ) → length l ≤ 160 → r ≡ made l → record { whole : r ≡ made l; first : Holds r l }
whole r l h e = record { whole = e; first = rw e (made_holds l h) }

-- ---- how long the texts are

-- ten to the power of suc k
abbrev limit : ℕ → ℕ
limit zero = 10
limit (suc k) = 10 * limit k

decimal_short : (k n : ℕ) → n < limit k → length (decimal n) ≤ suc k
decimal_short zero n h = rw (decimal_one n h) (omega arith)
decimal_short (suc k) n h =
    split (ltb n 10) (λ e. rw (decimal_one n (ltb-true n 10 e)) (omega arith))
    (λ e.
    let i = decimal_short k (n / 10) (omega arith) in
    rw (decimal_more n (ltb-false n 10 e), length-append) (omega arith))

length_hex : (k v : ℕ) → length (hex k v) ≡ k
unfolding hex
length_hex zero v = refl
length_hex (suc k) v = rw (length-append, length_hex k (v / 16)) (omega arith)

digits_short : (w : Width) → digits_of w ≤ 8
digits_short Bits32 = omega arith
digits_short Bits16 = omega arith

values_short : (digits : ℕ) (vs : List ℕ) → digits ≤ 8 → length (values digits vs) ≤ 9 * length vs
unfolding values
values_short digits [] h = omega arith
values_short digits (v ∷ vs) h = rw (length-append, length_hex digits v) (omega (arith, values_short digits vs h))

length_columns : (w : Width) (l : List ℕ) (r k n : ℕ) → length (columns w l r k n) ≡ n
unfolding columns
length_columns w l r k zero = refl
length_columns w l r k (suc n) = ap suc (length_columns w l r (suc k) n)

-- ---- the texts: a word and a number; two of each and a bit; a word, a number and values

-- nothing printed is wider than 64 bits
fits_20 : (n : ℕ) → n < 2 ^ 64 → length (decimal n) ≤ 20
fits_20 n h = decimal_short 19 n (omega arith)

module _ (w : List ℕ) (n : ℕ) (fits : n < 2 ^ 64) (h : length w ≤ 20) where
  pub number_short : length (w ++ decimal n ++ 10 ∷ []) ≤ 160
  number_short = simp length-append (omega (arith, fits_20 n fits))

  pub numbers_short : (v : List ℕ) (p : ℕ) → p < 2 ^ 64 → length v ≤ 20 → (x : List ℕ) → length x ≤ 40 → length (w ++ decimal n ++ v ++ decimal p ++ x ++ 10 ∷ []) ≤ 160
  numbers_short v p f k x j = simp length-append (omega (arith, fits_20 n fits, fits_20 p f))

  pub number_text : (r : Text) → r ≡ pushed (wrote (wrote empty_text w) (decimal n)) 10
      → record { whole : r ≡ made (w ++ decimal n ++ 10 ∷ []); first : Holds r (w ++ decimal n ++ 10 ∷ []) }
  number_text r e = whole r _ number_short (e ∙ simp (wrote_one, wrote_append, append_assoc))

  pub numbers_text : (v : List ℕ) (p : ℕ) → p < 2 ^ 64 → length v ≤ 20 → (x : List ℕ) → length x ≤ 40 → (r : Text)
      → r ≡ pushed (wrote (wrote (wrote (wrote (wrote empty_text w) (decimal n)) v) (decimal p)) x) 10
      → record { whole : r ≡ made (w ++ decimal n ++ v ++ decimal p ++ x ++ 10 ∷ []); first : Holds r (w ++ decimal n ++ v ++ decimal p ++ x ++ 10 ∷ []) }
  numbers_text v p f k x j r e = whole r _ (numbers_short v p f k x j) (e ∙ simp (wrote_one, wrote_append, append_assoc))

pub bit_short : (i : Option ℕ) → bit_number i < 2 ^ 64 → length (bit_text i) ≤ 40
unfolding bit_text
bit_short None h = omega arith
bit_short (Some i) h = simp length-append (omega (arith, fits_20 i h))

pub row_short : (w : Width) (l : List ℕ) (i : ℕ) → i < 2 ^ 32 → length (text_of (row w i (columns w l i 0 16))) ≤ 160
unfolding text_of
row_short w l i f =
    simp length-append
    (omega (arith, decimal_short 9 i (omega arith), values_short (digits_of w) (columns w l i 0 16) (digits_short w), length_columns w l i 0 16))

pub value_short : (t i v : ℕ) → t < 2 ^ 64 → i < 2 ^ 64 → length (text_of (value t i v)) ≤ 160
unfolding text_of
value_short t i v f g = simp length-append (omega (arith, fits_20 t f, fits_20 i g, values_short 8 (v ∷ []) (omega arith)))

pub row_text : (r : Text) (w : Width) (l : List ℕ) (i : ℕ) → i < 2 ^ 32
    → r ≡ pushed (wrote (wrote (wrote empty_text word_row) (decimal i)) (values (digits_of w) (columns w l i 0 16))) 10
    → record { whole : r ≡ made (text_of (row w i (columns w l i 0 16))); first : Holds r (text_of (row w i (columns w l i 0 16))) }
unfolding text_of
row_text r w l i f e = whole r _ (row_short w l i f) (e ∙ simp (wrote_one, wrote_append, append_assoc))

pub value_text : (r : Text) (t i v : ℕ) → t < 2 ^ 64 → i < 2 ^ 64
    → r ≡ pushed (wrote (wrote (pushed (wrote (wrote empty_text word_register) (decimal t)) 32) (decimal i)) (values 8 (v ∷ []))) 10
    → record { whole : r ≡ made (text_of (value t i v)); first : Holds r (text_of (value t i v)) }
unfolding text_of
value_text r t i v f g e = whole r _ (value_short t i v f g) (e ∙ simp (wrote_one, wrote_append, append_assoc))
