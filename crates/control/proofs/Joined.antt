-- The two halves of a control record, joined: its threads, a thread replaced, and a record taken apart. Assumes nothing.
use mathlib.Core.Path.{◌≡◌, refl, ap}
use mathlib.Core.Bool.{false}
use mathlib.Core.List.{List, [], ◌∷◌}
use Prim.Native.Nat.{ℕ, zero, suc, ◌<◌}
use native.Mathlib.Nat.{not-suc-le-zero, le_of_suc-le-suc}
use native.Mathlib.Omega.{arith}
use lib.Dec.{eqb}
use lib.ListN.{length}
use borrow.Author.Tests.{ne_eqb}
use Rattle.cells.specs.Layout.{thread_count}
use Rattle.control.specs.Record.{thread_at, with_thread}
use Rattle.control.specs.Halves.{Choice, own_of, choice_of, thread_of, core_of, choices_of, joined, own_at, with_own}
use Rattle.control.specs.declared.Thread.{Thread}
use Rattle.control.specs.declared.Own.{Own}
use Rattle.control.specs.declared.Core.{Core}
use Rattle.control.specs.declared.Control.{Control}

-- past the three threads there is none
past : (t k : ℕ) → k < 3 → eqb (suc (suc (suc t))) k ≡ false
past t k h = ne_eqb (suc (suc (suc t))) k (λ (q : suc (suc (suc t)) ≡ k). omega arith)

-- ---- the threads of a joined record

module _ (k : Core) (s : ℕ → Choice) where
  pub own_joined : (t : ℕ) → own_of (thread_at (joined k s) t) ≡ own_at k t
  unfolding joined
  own_joined zero = refl
  own_joined (suc zero) = refl
  own_joined (suc (suc zero)) = refl
  own_joined (suc (suc (suc t))) = simp (past t 0 (omega arith), past t 1 (omega arith), past t 2 (omega arith))

  pub choice_joined : (t : ℕ) → t < thread_count → choice_of (thread_at (joined k s) t) ≡ s t
  unfolding joined
  choice_joined zero h = refl
  choice_joined (suc zero) h = refl
  choice_joined (suc (suc zero)) h = refl
  choice_joined (suc (suc (suc t))) h = absurd (not-suc-le-zero (le_of_suc-le-suc (le_of_suc-le-suc (le_of_suc-le-suc h))))

  -- a change of a thread that its address slots have no part in is one of its own numbers
  pub put_joined : (t : ℕ) (o : Own) (f : Thread → Thread) → ((h : Choice) → thread_of o h ≡ f (thread_of (own_at k t) h))
      → joined (with_own k t o) s ≡ with_thread (joined k s) t (f (thread_at (joined k s) t))
  unfolding joined
  put_joined zero o f e = simp (e (s 0))
  put_joined (suc zero) o f e = simp (e (s 1))
  put_joined (suc (suc zero)) o f e = simp (e (s 2))
  put_joined (suc (suc (suc t))) o f e = simp (past t 0 (omega arith), past t 1 (omega arith), past t 2 (omega arith))

  -- a thread put back where it stood
  pub thread_back : (t : ℕ) → with_thread (joined k s) t (thread_at (joined k s) t) ≡ joined k s
  unfolding joined
  thread_back zero = refl
  thread_back (suc zero) = refl
  thread_back (suc (suc zero)) = refl
  thread_back (suc (suc (suc t))) = refl

-- ---- a record taken apart and joined again

three_back : (l : List Thread) → length l ≡ thread_count → (c : Control) → c.threads ≡ l
    → thread_at c 0 ∷ thread_at c 1 ∷ thread_at c 2 ∷ [] ≡ l
three_back [] h c e = absurd (let z : ◌≡◌ {A = ℕ} 0 3 = h in omega arith)
three_back (x ∷ []) h c e = absurd (let z : ◌≡◌ {A = ℕ} 1 3 = h in omega arith)
three_back (x ∷ y ∷ []) h c e = absurd (let z : ◌≡◌ {A = ℕ} 2 3 = h in omega arith)
three_back (x ∷ y ∷ z ∷ []) h c e = rw e
three_back (x ∷ y ∷ z ∷ w ∷ l) h c e = absurd (omega (arith, h))

pub joined_back : (c : Control) → length c.threads ≡ thread_count → joined (core_of c) (choices_of c) ≡ c
unfolding joined core_of
joined_back c h = ap (λ (l : List Thread). record { settings = c.settings; threads = l; a = c.a; b = c.b; last = c.last }) (three_back c.threads h c refl)
