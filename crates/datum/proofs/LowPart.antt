-- The low part's pattern: five doublings, or the units of a subnormal number. Assumes nothing.
use mathlib.Core.Path.{◌≡◌, refl, sym, ap, ◌∙◌}
use Prim.Native.Nat.{ℕ, suc, ◌+◌, ◌-◌, ◌*◌, ◌/◌, ◌%◌, ◌^◌, ◌≤◌, ◌<◌}
use native.Mathlib.Nat.{mul_assoc, mul_left_comm, mul-le-mul_left, lt_irrefl, lt_of_le_of_lt, pow-succ'}
use native.Mathlib.Omega.{arith}
use mathlib.Core.Bool.{Bool, true, false, cond, ◌&&◌}
use borrow.Author.Tests.{le-leb, leb-true, leb-false, ltb-true, ltb-false}
use lib.Dec.{leb, ltb}
use lib.Pow.{pow-add, pow_mono, shl_lt}
use Rattle.cells.proofs.Cells.{both}
use Rattle.datum.specs.Part.{bits_of}
use Rattle.datum.proofs.Places.{exponent_at}
use Rattle.datum.proofs.Parts.{built}

-- ---- five doublings

-- one of them, on the digits from 2^18 on
abbrev pub twice : ℕ → ℕ
twice w = w + cond (ltb w 32) w 32

-- i doublings of n: some doubled its digits, and where these reached 32 the others added 1 to the exponent
record Placed (n i w : ℕ) : Type 0 where
  times : ℕ
  digits : ℕ
  are : digits ≡ n * 2 ^ times
  most : times ≤ i
  rest : w ≡ digits + (i - times) * 32
  below : digits < 64
  reached : times < i → 32 ≤ digits

none : (n : ℕ) → n < 64 → Placed n 0 n
none n h = record { times = 0; digits = n; are = omega arith; most = omega arith; rest = omega arith; below = h; reached = λ l. omega arith }

doubles : (n t : ℕ) → 2 * (n * 2 ^ t) ≡ n * 2 ^ suc t
doubles n t = let e : 2 ^ suc t ≡ 2 * 2 ^ t = pow-succ' 2 t in mul_left_comm 2 n (2 ^ t) ∙ ap (λ (z : ℕ). n * z) (sym e)

once_more : (n i w : ℕ) → Placed n i w → Placed n (suc i) (twice w)
once_more n i w p = go (ltb w 32) refl
  where
    reach : (b : Bool) → ltb p.times i ≡ b → 32 ≤ w → 32 ≤ p.digits
    reach true t l = p.reached (ltb-true p.times i t)
    reach false t l = let k : i ≤ p.times = ltb-false p.times i t in omega (arith, p.rest, p.most)

    go : (b : Bool) → ltb w 32 ≡ b → Placed n (suc i) (twice w)
    go true t =
        let l : w < 32 = ltb-true w 32 t in
        let all : p.times ≡ i = omega (arith, p.most, p.rest) in
        record {
          times = suc p.times;
          digits = 2 * p.digits;
          are = ap (λ (z : ℕ). 2 * z) p.are ∙ doubles n p.times;
          most = omega (arith, p.most);
          rest = simp t (omega (arith, p.rest, all));
          below = omega (arith, p.rest, all);
          reached = λ k. omega (arith, all);
        }
    go false t =
        let l : 32 ≤ w = ltb-false w 32 t in
        record {
          times = p.times;
          digits = p.digits;
          are = p.are;
          most = omega (arith, p.most);
          rest = simp t (omega (arith, p.rest, p.most));
          below = p.below;
          reached = λ k. reach (ltb p.times i) refl l;
        }

abbrev pub five : ℕ → ℕ
five n = twice (twice (twice (twice (twice n))))

-- a chain of five
pub in_turn : (n a b c d r : ℕ) → a ≡ twice n → b ≡ twice a → c ≡ twice b → d ≡ twice c → r ≡ twice d → r ≡ five n
in_turn n a b c d z p q r s t = t ∙ ap twice (s ∙ ap twice (r ∙ ap twice (q ∙ ap twice p)))

placed : (n : ℕ) → n < 64 → Placed n 5 (five n)
placed n h = once_more n 4 _ (once_more n 3 _ (once_more n 2 _ (once_more n 1 _ (once_more n 0 n (none n h)))))

-- the doublings that bring the leading digit of n * 2^(e - 137) to its place, where it is normal
pub record Normal (n e : ℕ) : Type 0 where
  pub s : ℕ
  pub some : 0 < s
  pub held : s ≤ e
  pub most : s ≤ 11
  pub above : 2048 ≤ n * 2 ^ s
  pub below : n * 2 ^ s < 4096
  pub five_is : five n * 64 ≡ n * 2 ^ s + (11 - s) * 2048

pub is_normal : (n e : ℕ) → 0 < n → n < 64 → (e ≤ 10 → 2048 ≤ n * 2 ^ e) → Normal n e
is_normal n e n0 n1 big =
    let p = placed n n1 in
    let all : p.digits * 64 ≡ n * 2 ^ (p.times + 6) =
    ap (λ (z : ℕ). z * 64) p.are ∙ mul_assoc n (2 ^ p.times) 64 ∙ ap (λ (z : ℕ). n * z) (sym (pow-add 2 p.times 6)) in
    let reached : 32 ≤ p.digits = at_least p (ltb p.times 5) refl in
    let above : 2048 ≤ n * 2 ^ (p.times + 6) = omega (arith, all, reached) in
    let below : n * 2 ^ (p.times + 6) < 4096 = omega (arith, all, p.below) in
    record {
      s = p.times + 6;
      some = omega arith;
      held = in_time (p.times + 6) (omega (arith, p.most)) below (leb (p.times + 6) e) refl;
      most = omega (arith, p.most);
      above = above;
      below = below;
      five_is = omega (arith, all, p.rest, p.most);
    }
  where
    at_least : (p : Placed n 5 (five n)) (b : Bool) → ltb p.times 5 ≡ b → 32 ≤ p.digits
    at_least p true t = p.reached (ltb-true p.times 5 t)
    at_least p false t =
        let is : p.times ≡ 5 = omega (arith, p.most, ltb-false p.times 5 t) in
        let d : p.digits ≡ n * 2 ^ 5 = p.are ∙ ap (λ (z : ℕ). n * 2 ^ z) is in
        omega (arith, d)

    in_time : (s : ℕ) → s ≤ 11 → n * 2 ^ s < 4096 → (b : Bool) → leb s e ≡ b → s ≤ e
    in_time s l m true t = leb-true s e t
    in_time s l m false t =
        let k : e < s = leb-false s e t in
        let more : n * 2 ^ suc e ≤ n * 2 ^ s = mul-le-mul_left n (pow_mono {i = suc e} {j = s} (omega arith)) in
        absurd (lt_irrefl 4096 (omega (arith, more, big (omega arith), doubles n e)))

-- ---- what `low` returns

pub normal_built : (c n : ℕ) → c < 512 → c % 256 < 255 → 0 < n → n < 64 → Normal n (c % 256)
    → (c * 1024 + five n * 32 - 11 * 1024) * 8192 ≡ bits_of (leb 256 c) n (c % 256)
normal_built c n H e1 n0 n1 p =
    let same : (c * 1024 + five n * 32 - 11 * 1024) * 8192 ≡ (c - p.s) * 8388608 + n * 2 ^ p.s * 4096 = omega (arith, p.held, p.most, p.five_is) in
    same ∙ built c n p.s H e1 n0 (omega arith) p.some p.held p.below (λ k. absurd (lt_irrefl 2048 (lt_of_le_of_lt p.above k)))

pub subnormal_built : (c n : ℕ) → c < 512 → 0 < c % 256 → c % 256 < 255 → 0 < n → n < 64 → n * 2 ^ (c % 256) < 2048
    → c / 256 * 2147483648 + n * 2 ^ (c % 256) * 4096 ≡ bits_of (leb 256 c) n (c % 256)
subnormal_built c n H e0 e1 n0 n1 l =
    let same : c / 256 * 2147483648 + n * 2 ^ (c % 256) * 4096 ≡ (c - c % 256) * 8388608 + n * 2 ^ (c % 256) * 4096 = omega arith in
    same ∙ built c n (c % 256) H e1 n0 (omega arith) e0 (omega arith) (omega arith) (λ k. refl)

-- ---- the test for a subnormal low part

-- no digit is lost where the exponent is at most 10
units_fit : (n e : ℕ) → n < 64 → e ≤ 10 → n * 2 ^ e % 4294967296 ≡ n * 2 ^ e
units_fit n e h k =
    let below : n * 2 ^ e < 2 ^ (6 + e) = shl_lt 6 e h in
    let fits : 2 ^ (6 + e) ≤ 2 ^ 16 = pow_mono {i = 6 + e} {j = 16} (omega arith) in
    omega (arith, below, fits)

units_at : (h n : ℕ) → n < 64 → h / 1024 % 256 ≤ 10 → n * 2 ^ (h / 1024 % 16) % 4294967296 ≡ n * 2 ^ (h / 1024 % 256)
units_at h n n1 k =
    let same : h / 1024 % 16 ≡ h / 1024 % 256 = omega arith in
    ap (λ (e : ℕ). n * 2 ^ e % 4294967296) same ∙ units_fit n (h / 1024 % 256) n1 k

abbrev pub subnormal : ℕ → ℕ → Bool
subnormal h n = leb (h % 262144) (10 * 1024) && ltb (n * 2 ^ (h / 1024 % 16) % 4294967296) 2048

pub is_subnormal : (h n : ℕ) → n < 64 → subnormal h n ≡ true → (n * 2 ^ (h / 1024 % 16) % 4294967296 ≡ n * 2 ^ (h / 1024 % 256)) × (n * 2 ^ (h / 1024 % 256) < 2048)
is_subnormal h n n1 t =
    let b = both (leb (h % 262144) (10 * 1024)) (ltb (n * 2 ^ (h / 1024 % 16) % 4294967296) 2048) t in
    let small : h / 1024 % 256 ≤ 10 = omega (arith, exponent_at h, leb-true (h % 262144) (10 * 1024) b.0) in
    let same = units_at h n n1 small in
    (same, omega (arith, same, ltb-true (n * 2 ^ (h / 1024 % 16) % 4294967296) 2048 b.1))

pub not_subnormal : (h n : ℕ) → n < 64 → h % 1024 ≡ 0 → subnormal h n ≡ false → h / 1024 % 256 ≤ 10 → 2048 ≤ n * 2 ^ (h / 1024 % 256)
not_subnormal h n n1 z t k =
    let same = units_at h n n1 k in
    let first : leb (h % 262144) (10 * 1024) ≡ true = le-leb (h % 262144) (10 * 1024) (omega (arith, exponent_at h)) in
    let second : ltb (n * 2 ^ (h / 1024 % 16) % 4294967296) 2048 ≡ false = ap (λ (b : Bool). b && ltb (n * 2 ^ (h / 1024 % 16) % 4294967296) 2048) (sym first) ∙ t in
    omega (arith, same, ltb-false (n * 2 ^ (h / 1024 % 16) % 4294967296) 2048 second)
