-- Two lent states that agree where the marks say set: what keeps them so. Assumes nothing.
use mathlib.Core.Path.{◌≡◌, refl, sym, ap₂, subst}
use mathlib.Core.Bool.{Bool, true, false, cond}
use mathlib.Core.List.{List, [], ◌∷◌}
use Prim.Native.Nat.{ℕ, ◌+◌, ◌-◌, ◌/◌, ◌%◌, ◌<◌}
use native.Mathlib.Omega.{arith}
use lib.ListN.{get_or}
use lib.Dec.{eqb}
use borrow.Author.Tests.{eqb-false}
use Rattle.cells.specs.State.{State}
use Rattle.cells.specs.declared.layout.Span.{Span}
use Rattle.cells.specs.declared.Width.{Width}
use Rattle.cells.specs.declared.Width.TheVariants.{Bits32}
use Rattle.cells.specs.Cells.{in_span, over_span}
use Rattle.cells.specs.Places.{get_at}
use Rattle.cells.proofs.Cells.{split, over_true, over_none, within_true, between_in, between_after}
use Rattle.cells.proofs.Same.{Same, over_same, fewer, drop_same, number_same, numbers_over}
use Rattle.cells.proofs.Tests.{each_of, below_of}
use Rattle.word.specs.declared.ShiftB.{ShiftB}
use Rattle.word.specs.declared.Scalar.{Scalar}
use Rattle.word.specs.Operands.{multiply_of, zero_src_of, shift_a_of, shift_b_of, scalar_of}
use Rattle.word.specs.declared.Operands.{Operands}
use Rattle.word.specs.declared.Operands.TheVariants as operands
use Rattle.control.specs.declared.Control.{Control}
use Rattle.control.specs.Record.{width_of}
use Rattle.product.specs.declared.Product.{Product}
use Rattle.product.specs.Product.{rows_a, rows_b, rows_d, multiplied}
use Rattle.product.proofs.MultipliedDst.{multiplied_agrees}
use Rattle.rules.specs.declared.Reads.{Reads}
use Rattle.rules.specs.ZeroSrc.{filled_a, filled_b}
use Rattle.rules.specs.Shifts.{shifted_a, shift_a_meaning, shifted_b, shift_b_meaning}
use Rattle.rules.specs.Vocabulary.{Unsets, no_sets}
use Rattle.rules.specs.Scalar.{scalar_b, scalar_meaning}
use Rattle.rules.specs.Access.{no_unsets, reads_of, sets_of, unsets_of}
use Rattle.cells.specs.Layout.{no_span, cell, bank_row, register, span}
use Rattle.step.specs.Multiply.{product_of}
use Rattle.step.specs.Shifts.{rightward, leftward, shift_a, shift_b}
use Rattle.step.specs.Scalar.{computed, operand_b, scalar_result, scalar}
use Rattle.step.specs.Effect.{effect_of}
use Rattle.precheck.specs.Marks.{Marks, all_set, reads_set, instruction_marks}

-- the mark of a place: its row's, or its own
abbrev pub by_row : ℕ → ℕ
by_row i = i / 16

abbrev pub alone : ℕ → ℕ
alone i = i

-- each row of a span that is all set
pub set_at : (m : List Bool) (s : Span) (r : ℕ) → all_set m s ≡ true → in_span s r ≡ true → get_or m r false ≡ true
unfolding all_set
set_at m s r h q =
    let b = within_true s.first s.count r q in
    let e : s.first + (r - s.first) ≡ r = omega arith in
    rw e at (below_of (λ (i : ℕ). get_or m (s.first + i) false) s.count h (r - s.first) (omega arith))

-- ---- what is read where the marks say set is the same

-- a column of a row, whatever the width
pub cell_same : (w : Width) (n : ℕ) (m : List Bool) (d e : List ℕ) → Same w by_row n m d e → (r j : ℕ) → j < 16 → get_or m r false ≡ true
    → get_at w d (cell r j) ≡ get_at w e (cell r j)
cell_same w n m d e s r j h t = let q : cell r j / 16 ≡ r = omega arith in s.same (cell r j) (rw q t)

module _ (n : ℕ) (m : List Bool) (d e : List ℕ) (s : Same Bits32 by_row n m d e) where
  -- of the files with 32-bit numbers alone
  rows_same : (x : Span) → all_set m x ≡ true → (i : ℕ) → in_span x (i / 16) ≡ true → get_or d i 0 ≡ get_or e i 0
  rows_same x h i q = number_same by_row n m d e s i (set_at m x (i / 16) h q)

  number_cell : (r j : ℕ) → j < 16 → get_or m r false ≡ true → get_or d (cell r j) 0 ≡ get_or e (cell r j) 0
  unfolding get_at
  number_cell r j h t = cell_same Bits32 n m d e s r j h t

  rightward_same : (r j : ℕ) → j < 16 → get_or m r false ≡ true → rightward d r j ≡ rightward e r j
  rightward_same r j h t = split (eqb j 0) (λ q. rw q) (λ q. rw q (number_cell r (j - 1) (omega arith) t))

  leftward_same : (x y : ℕ) → x ≡ y → (r j : ℕ) → j < 16 → get_or m r false ≡ true → leftward x d r j ≡ leftward y e r j
  leftward_same x y p r j h t = split (eqb j 15) (λ q. rw q p) (λ q. rw q (number_cell r (j + 1) (omega (arith, eqb-false j 15 q)) t))

  shifted_same : (right : Bool) (r j : ℕ) → j < 16 → get_or m r false ≡ true
      → cond right (rightward d r j) (leftward 0 d r j) ≡ cond right (rightward e r j) (leftward 0 e r j)
  shifted_same true r j h t = rightward_same r j h t
  shifted_same false r j h t = leftward_same 0 0 refl r j h t

  -- SHIFTXB's new column 15
  end_same : (zero : Bool) (r : ℕ) → get_or m r false ≡ true → cond zero 0 (get_or d (cell r 0) 0) ≡ cond zero 0 (get_or e (cell r 0) 0)
  end_same true r t = refl
  end_same false r t = number_cell r 0 (omega arith) t

-- no mark set, some taken away
kept_same : (row : ℕ → ℕ) (n : ℕ) (m : List Bool) (d e : List ℕ) → Same Bits32 row n m d e → (u : Span) → Same Bits32 row n (over_span u false (over_span no_span true m)) d e
kept_same row n m d e s u =
    rw (over_none (in_span no_span) (λ r. true) false m (λ r. between_after 0 0 r (omega arith))) (drop_same Bits32 row n m d e s (in_span u))

-- a span of one
pub one_set : (m : List Bool) (r : ℕ) → all_set m (span r 1) ≡ true → get_or m r false ≡ true
one_set m r h = set_at m (span r 1) r h (between_in r (r + 1) r (omega arith) (omega arith))

-- ---- the four files, with Dst's rows of width w

pub record Agree (w : Width) (m : Marks) (d e : State) : Type 0 where
  pub srca : Same Bits32 by_row 2048 m.srca d.srca e.srca
  pub srcb : Same Bits32 by_row 2048 m.srcb d.srcb e.srcb
  pub dst : Same w by_row 8192 m.dst d.dst e.dst
  pub registers : Same Bits32 alone 192 m.registers d.registers e.registers

-- all that an instruction reads is set
record Read (m : Marks) (r : Reads) : Type 0 where
  a : all_set m.srca r.a ≡ true
  b : all_set m.srcb r.b ≡ true
  dst : all_set m.dst r.dst ≡ true
  left : all_set m.registers r.rega ≡ true
  right : all_set m.registers r.regb ≡ true

all_read : (m : Marks) (r : Reads) → reads_set m r ≡ true → Read m r
unfolding reads_set
all_read m r h =
    let e = each_of (all_set m.srca r.a ∷ all_set m.srcb r.b ∷ all_set m.dst r.dst ∷ all_set m.registers r.rega ∷ all_set m.registers r.regb ∷ []) h in
    record { a = e.0; b = e.1.0; dst = e.1.1.0; left = e.1.1.1.0; right = e.1.1.1.1.0 }

-- ---- each instruction keeps the agreement

module _ (w : Width) (m : Marks) (d e : State) (s : Agree w m d e) where
  -- one that changes no number
  idle_agrees : (u : Unsets) → Agree w (instruction_marks m no_sets u) d e
  unfolding instruction_marks
  idle_agrees u =
      record {
        srca = kept_same by_row 2048 m.srca d.srca e.srca s.srca u.a;
        srcb = kept_same by_row 2048 m.srcb d.srcb e.srcb s.srcb u.b;
        dst = s.dst;
        registers = rw (over_none (in_span no_span) (λ r. true) false m.registers (λ r. between_after 0 0 r (omega arith))) s.registers;
      }

  -- a multiply over rows of the width w
  multiply_same : (p : Product) → p.width ≡ w → all_set m.srca (rows_a p) ≡ true → all_set m.srcb (rows_b p) ≡ true → all_set m.dst (rows_d p) ≡ true
      → Same w by_row 8192 m.dst (multiplied p d.srca d.srcb d.dst) (multiplied p e.srca e.srcb e.dst)
  unfolding multiplied
  multiply_same p q ha hb hd =
      let g = subst (λ (v : Width). Same v by_row 8192 m.dst d.dst e.dst) (sym q) s.dst in
      subst (λ (v : Width). Same v by_row 8192 m.dst (multiplied p d.srca d.srcb d.dst) (multiplied p e.srca e.srcb e.dst)) q
      (fewer p.width by_row 8192 _ _ _ (over_same p.width by_row 8192 m.dst d.dst e.dst g (in_span (rows_d p)) _ _
      (λ i r. multiplied_agrees p d.srca e.srca d.srcb e.srcb
      (rows_same 2048 m.srca d.srca e.srca s.srca (rows_a p) ha)
      (rows_same 2048 m.srcb d.srcb e.srcb s.srcb (rows_b p) hb)
      d.dst e.dst i r
      (g.same i (set_at m.dst (rows_d p) (i / 16) hd r))))
      m.dst (over_true (in_span (rows_d p)) m.dst))

  shift_a_same : (c : Control) (mode : ℕ) (t : ℕ) → Read m ((shift_a_meaning mode).reads c t)
      → Same Bits32 by_row 2048 (over_span (shifted_a c) true m.srca) (shift_a c mode d.srca) (shift_a c mode e.srca)
  unfolding shift_a shifted_a
  shift_a_same c mode t h =
      numbers_over by_row 2048 m.srca d.srca e.srca s.srca (in_span (shifted_a c)) _ _
      (λ i q.
      let first = bank_row c.a.matrix c.last in
      let b = within_true (bank_row c.a.matrix 0) 16 (i / 16) q in
      shifted_same 2048 m.srca d.srca e.srca s.srca (eqb mode 2) (i / 16 + c.last) (i % 16) (omega arith)
      (set_at m.srca (span first 16) (i / 16 + c.last) h.a (between_in first (first + 16) (i / 16 + c.last) (omega arith) (omega arith))))

  shift_b_same : (c : Control) (t : ℕ) (x : ShiftB) → Read m ((shift_b_meaning x).reads c t)
      → Same Bits32 by_row 2048 m.srcb (shift_b c t x d.srcb) (shift_b c t x e.srcb)
  unfolding shift_b
  shift_b_same c t x h =
      let r = shifted_b c t x in
      let rows = in_span (span r 1) in
      fewer Bits32 by_row 2048 _ _ _ (numbers_over by_row 2048 m.srcb d.srcb e.srcb s.srcb rows _ _
      (λ i q.
      leftward_same 2048 m.srcb d.srcb e.srcb s.srcb _ _
      (end_same 2048 m.srcb d.srcb e.srcb s.srcb x.zero r (one_set m.srcb r h.b))
      (i / 16) (i % 16) (omega arith) (set_at m.srcb (span r 1) (i / 16) h.b q)))
      m.srcb (over_true rows m.srcb)

  operand_same : (t : ℕ) (x : Scalar) → all_set m.registers (scalar_b t x) ≡ true → operand_b t x d.registers ≡ operand_b t x e.registers
  operand_same t x h = go x.constant h
    where
      go : (k : Bool) → all_set m.registers (cond k no_span (span (register t x.b) 1)) ≡ true
          → cond k x.b (get_or d.registers (register t x.b) 0) ≡ cond k x.b (get_or e.registers (register t x.b) 0)
      go true h = refl
      go false h = number_same alone 192 m.registers d.registers e.registers s.registers (register t x.b) (one_set m.registers (register t x.b) h)

  scalar_same : (c : Control) (t : ℕ) (x : Scalar) → Read m ((scalar_meaning x).reads c t)
      → Same Bits32 alone 192 (over_span (span (register t x.result) 1) true m.registers) (scalar t x d.registers) (scalar t x e.registers)
  unfolding scalar scalar_result
  scalar_same c t x h =
      numbers_over alone 192 m.registers d.registers e.registers s.registers (in_span (span (register t x.result) 1)) _ _
      (λ i q. ap₂ (computed x.op x.mode) (number_same alone 192 m.registers d.registers e.registers s.registers (register t x.a) (one_set m.registers (register t x.a) h.left)) (operand_same t x h.right))

  -- the operands of a word, all that they read being set, under a record of this width
  pub word_agrees : (c : Control) (t : ℕ) (f : Operands) → width_of c.settings ≡ w → reads_set m (reads_of c t f) ≡ true
      → Agree w (instruction_marks m (sets_of c t f) (unsets_of c f)) (effect_of c t f d) (effect_of c t f e)
  unfolding effect_of reads_of sets_of unsets_of instruction_marks product_of
  word_agrees c t (operands.Multiply x) q h =
      let i = idle_agrees (unsets_of c (operands.Multiply x)) in
      let r = all_read m _ h in
      record { srca = i.srca; srcb = i.srcb; dst = multiply_same (product_of c t (multiply_of x)) q r.a r.b r.dst; registers = i.registers }
  word_agrees c t (operands.Legacy x) q h = idle_agrees (unsets_of c (operands.Legacy x))
  word_agrees c t (operands.SetCounters x) q h = idle_agrees (unsets_of c (operands.SetCounters x))
  word_agrees c t (operands.AddCounters x) q h = idle_agrees no_unsets
  word_agrees c t (operands.ZeroSrc x) q h =
      let i = idle_agrees no_unsets in
      record {
        srca = drop_same Bits32 by_row 2048 _ _ _ (numbers_over by_row 2048 m.srca d.srca e.srca s.srca (in_span (filled_a c (zero_src_of x))) _ _ (λ i q. refl)) (in_span no_span);
        srcb = drop_same Bits32 by_row 2048 _ _ _ (numbers_over by_row 2048 m.srcb d.srcb e.srcb s.srcb (in_span (filled_b c (zero_src_of x))) _ _ (λ i q. refl)) (in_span no_span);
        dst = i.dst;
        registers = i.registers;
      }
  word_agrees c t (operands.ShiftA x) q h =
      let i = idle_agrees no_unsets in
      record {
        srca = drop_same Bits32 by_row 2048 _ _ _ (shift_a_same c (shift_a_of x) t (all_read m _ h)) (in_span no_span);
        srcb = i.srcb;
        dst = i.dst;
        registers = i.registers;
      }
  word_agrees c t (operands.ShiftB x) q h =
      let i = idle_agrees no_unsets in
      record {
        srca = i.srca;
        srcb = kept_same by_row 2048 _ _ _ (shift_b_same c t (shift_b_of x) (all_read m _ h)) no_span;
        dst = i.dst;
        registers = i.registers;
      }
  word_agrees c t operands.NoEffect q h = idle_agrees no_unsets
  word_agrees c t (operands.Scalar x) q h =
      let i = idle_agrees no_unsets in
      record { srca = i.srca; srcb = i.srcb; dst = i.dst; registers = scalar_same c t (scalar_of x) (all_read m _ h) }
