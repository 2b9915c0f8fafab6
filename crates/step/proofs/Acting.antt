-- What each class makes of the lent numbers, as one instruction. Assumes nothing.
use Rattle.std.specs.Prelude.{Result, Err, ⊤}
use mathlib.Core.Path.{◌≡◌, refl, sym, ap, ◌∙◌}
use mathlib.Core.Bool.{Bool, true, false, cond}
use mathlib.Core.List.{List}
use Prim.Native.Nat.{ℕ}
use lib.ListN.{length}
use Rattle.cells.specs.State.{State, state}
use Rattle.word.specs.Operands.{multiply_of, shift_a_of, shift_b_of}
use Rattle.word.specs.declared.MultiplyWord.{MultiplyWord}
use Rattle.word.specs.declared.ShiftAWord.{ShiftAWord}
use Rattle.word.specs.declared.ShiftBWord.{ShiftBWord}
use Rattle.word.specs.declared.Operands.{Operands}
use Rattle.word.specs.declared.Operands.TheVariants as operands
use Rattle.word.specs.declared.Refusal.{Refusal}
use Rattle.control.specs.declared.Control.{Control}
use Rattle.product.specs.Product.{multiplied, fits}
use Rattle.step.specs.Multiply.{product_of}
use Rattle.step.specs.Shifts.{shift_a, shift_b}
use Rattle.step.specs.Effect.{effect_of}
use Rattle.step.specs.Step.{if_done}
use Rattle.step.specs.Inside.{inside_a, inside_b, inside, acted}

-- a part of the state, replaced where a test says so
chosen : (put : List ℕ → State) (b : Bool) (x old : List ℕ) → put (cond b x old) ≡ cond b (put x) (put old)
chosen put true x old = refl
chosen put false x old = refl

module _ (c : Control) (t : ℕ) (a b d r : List ℕ) (f : Operands) where
  pub multiply_acts : (w : MultiplyWord) → f ≡ operands.Multiply w → {n : List ℕ}
      → n ≡ cond (fits (product_of c t (multiply_of w)) (length a) (length b) (length d)) (multiplied (product_of c t (multiply_of w)) a b d) d
      → state a b n r ≡ acted c t f (state a b d r)
  unfolding acted inside effect_of
  multiply_acts w e h =
      let p = product_of c t (multiply_of w) in
      ap (λ (x : List ℕ). state a b x r) h
      ∙ chosen (λ x. state a b x r) (fits p (length a) (length b) (length d)) (multiplied p a b d) d
      ∙ sym (ap (λ (g : Operands). cond (inside c t g (state a b d r)) (effect_of c t g (state a b d r)) (state a b d r)) e)

  pub shift_a_acts : (w : ShiftAWord) → f ≡ operands.ShiftA w → {n : List ℕ} → n ≡ cond (inside_a c (length a)) (shift_a c (shift_a_of w) a) a
      → state n b d r ≡ acted c t f (state a b d r)
  unfolding acted inside effect_of
  shift_a_acts w e h =
      ap (λ (x : List ℕ). state x b d r) h
      ∙ chosen (λ x. state x b d r) (inside_a c (length a)) (shift_a c (shift_a_of w) a) a
      ∙ sym (ap (λ (g : Operands). cond (inside c t g (state a b d r)) (effect_of c t g (state a b d r)) (state a b d r)) e)

  pub shift_b_acts : (w : ShiftBWord) → f ≡ operands.ShiftB w → {n : List ℕ}
      → n ≡ cond (inside_b c t (shift_b_of w) (length b)) (shift_b c t (shift_b_of w) b) b
      → state a n d r ≡ acted c t f (state a b d r)
  unfolding acted inside effect_of
  shift_b_acts w e h =
      ap (λ (y : List ℕ). state a y d r) h
      ∙ chosen (λ y. state a y d r) (inside_b c t (shift_b_of w) (length b)) (shift_b c t (shift_b_of w) b) b
      ∙ sym (ap (λ (g : Operands). cond (inside c t g (state a b d r)) (effect_of c t g (state a b d r)) (state a b d r)) e)

-- whatever its rows, one that is inside has its effect
pub whole_acts : (c : Control) (t : ℕ) (s : State) (f g : Operands) → f ≡ g → inside c t g s ≡ true → {n : State} → n ≡ effect_of c t g s → n ≡ acted c t f s
unfolding acted
whole_acts c t s f g e i h =
    h
    ∙ sym (ap (λ (b : Bool). cond b (effect_of c t g s) s) i)
    ∙ sym (ap (λ (x : Operands). cond (inside c t x s) (effect_of c t x s) s) e)

-- a refused one leaves what was there
pub refused_leaves : (v : Result ⊤ Refusal) (x : Refusal) → v ≡ Err x → (new old : State) → old ≡ if_done v new old
refused_leaves v x e new old = sym (ap (λ (w : Result ⊤ Refusal). if_done w new old) e)
