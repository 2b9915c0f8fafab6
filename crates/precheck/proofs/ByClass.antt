-- What the classes of instruction read and mark, each by the rows or registers that it has: a span of none is set, and marks nothing. Assumes nothing.
use mathlib.Core.Path.{◌≡◌, refl, sym, ap, ◌∙◌}
use mathlib.Core.Bool.{Bool, true, false, ◌&&◌, ◌||◌, and-true}
use mathlib.Core.List.{List}
use Prim.Native.Nat.{ℕ}
use native.Mathlib.Nat.{add-zero}
use lib.ListN.{get_or}
use Rattle.cells.specs.declared.layout.Span.{Span}
use Rattle.cells.specs.Layout.{no_span, span, bank_span, one_register, register}
use Rattle.cells.specs.Cells.{over, within, over_span}
use Rattle.cells.proofs.Cells.{split, over_between_none}
use Rattle.cells.specs.declared.layout.ByFile.{ByFile}
use Rattle.word.specs.declared.Scalar.{Scalar}
use Rattle.control.specs.declared.Banks.{Banks}
use Rattle.control.specs.declared.Control.{Control}
use Rattle.rules.specs.Vocabulary.{Unsets, no_sets, no_reads, rows_read, registers_read, rows_set, registers_set}
use Rattle.rules.specs.Access.{given_back, clear_unsets, no_unsets}
use Rattle.rules.specs.Scalar.{scalar_b}
use Rattle.rules.specs.declared.Reads.{Reads}
use Rattle.precheck.specs.Marks.{Marks, marks, all_set, reads_set, instruction_marks}

none_marked : (v : Bool) (l : List Bool) → l ≡ over_span no_span v l
none_marked v l = sym (over_between_none (λ i. v) v l 0)

pub one_set : (l : List Bool) (i : ℕ) → all_set l (span i 1) ≡ get_or l i false
unfolding all_set
one_set l i = rw add-zero

-- ---- what is read, x being the spans and p, q and r what the tests of them say

module _ (m : Marks) where
  pub nothing_set : reads_set m no_reads ≡ true
  unfolding reads_set all_set
  nothing_set = refl

  rows_set_lem : (a b d : Span) → (all_set m.srca a && all_set m.srcb b) && all_set m.dst d ≡ reads_set m (rows_read a b d)
  unfolding reads_set all_set
  rows_set_lem a b d = sym (and-true _ ∙ and-true _)

  pub rows_read_lem : {x : Reads} (a b d : Span) → x ≡ rows_read a b d
      → {p q r : Bool} → p ≡ all_set m.srca x.a → q ≡ all_set m.srcb x.b → r ≡ all_set m.dst x.dst → (p && q) && r ≡ reads_set m (rows_read a b d)
  rows_read_lem a b d e ep eq er =
      (λ i. (ep i && eq i) && er i)
      ∙ ap (λ (x : Reads). (all_set m.srca x.a && all_set m.srcb x.b) && all_set m.dst x.dst) e
      ∙ rows_set_lem a b d

  pub rows_a_read : {x : Reads} (a : Span) → x ≡ rows_read a no_span no_span → {p : Bool} → p ≡ all_set m.srca x.a → p ≡ reads_set m (rows_read a no_span no_span)
  unfolding all_set
  rows_a_read a e ep =
      ep ∙ ap (λ (x : Reads). all_set m.srca x.a) e ∙ sym (and-true _ ∙ and-true _) ∙ rows_set_lem a no_span no_span

  pub rows_b_read : {x : Reads} (b : Span) → x ≡ rows_read no_span b no_span → {p : Bool} → p ≡ all_set m.srcb x.b → p ≡ reads_set m (rows_read no_span b no_span)
  unfolding all_set
  rows_b_read b e ep =
      ep ∙ ap (λ (x : Reads). all_set m.srcb x.b) e ∙ sym (and-true _) ∙ rows_set_lem no_span b no_span

  -- register A, at i, and, unless it is a constant, B, at j
  registers_set_lem : (t : ℕ) (x : Scalar)
      → get_or m.registers (register t x.a) false && (x.constant || get_or m.registers (register t x.b) false)
      ≡ reads_set m (registers_read (one_register t x.a) (scalar_b t x))
  unfolding reads_set all_set
  registers_set_lem t x =
      split x.constant (λ e. rw (e, add-zero)) (λ e. rw (e, add-zero (register t x.a), add-zero (register t x.b)))

  pub registers_read_lem : (t : ℕ) (x : Scalar) {i j : ℕ} → i ≡ register t x.a → j ≡ register t x.b
      → {p q : Bool} → p ≡ get_or m.registers i false → q ≡ get_or m.registers j false
      → p && (x.constant || q) ≡ reads_set m (registers_read (one_register t x.a) (scalar_b t x))
  registers_read_lem t x ei ej ep eq =
      (λ h. (ep ∙ ap (λ (n : ℕ). get_or m.registers n false) ei) h && (x.constant || (eq ∙ ap (λ (n : ℕ). get_or m.registers n false) ej) h))
      ∙ registers_set_lem t x

-- ---- what is marked

-- by a clear, of one file
pub given_on : (b : Banks) {on keep : Bool} → on ≡ true → keep ≡ false → {x : Span} → x ≡ bank_span b.matrix → (l : List Bool) {a : List Bool}
    → a ≡ over_span x false l → a ≡ over_span (given_back b on keep) false l
given_on b e k ex l ea = ea ∙ ap (λ (y : Span). over_span y false l) (ex ∙ rw (e, k))

pub given_off : (b : Banks) {on : Bool} (keep : Bool) → on ≡ false → (l : List Bool) → l ≡ over_span (given_back b on keep) false l
given_off b keep e l = rw e (none_marked false l)

pub given_kept : (b : Banks) (on : Bool) {keep : Bool} → keep ≡ true → (l : List Bool) → l ≡ over_span (given_back b on keep) false l
given_kept b true e l = rw e (none_marked false l)
given_kept b false e l = none_marked false l

module _ (m : Marks) where
  -- by a clear alone
  pub cleared : (u : Unsets) {a b : List Bool} → a ≡ over_span u.a false m.srca → b ≡ over_span u.b false m.srcb
      → marks a b m.dst m.registers ≡ instruction_marks m no_sets u
  unfolding instruction_marks
  cleared u ea eb =
      (λ i. marks (ea i) (eb i) m.dst m.registers)
      ∙ (λ i. marks (over_span u.a false (none_marked true m.srca i)) (over_span u.b false (none_marked true m.srcb i)) m.dst (none_marked true m.registers i))

  -- the clear being a field of the word
  pub cleared_by : (c : Control) {f g : ByFile Bool} → f ≡ g → {n : Marks} → n ≡ instruction_marks m no_sets (clear_unsets c f) → n ≡ instruction_marks m no_sets (clear_unsets c g)
  cleared_by c e en = en ∙ ap (λ (f : ByFile Bool). instruction_marks m no_sets (clear_unsets c f)) e

  -- rows set, x and y being the spans, and no clear
  pub rows_marked : (s z : Span) {x y : Span} → x ≡ s → y ≡ z → {a b : List Bool} → a ≡ over_span x true m.srca → b ≡ over_span y true m.srcb
      → marks a b m.dst m.registers ≡ instruction_marks m (rows_set s z) no_unsets
  unfolding instruction_marks
  rows_marked s z ex ey {a} {b} ea eb =
      (λ i. marks (none_marked false a i) (none_marked false b i) m.dst (none_marked true m.registers i))
      ∙ (λ i. marks (over_span no_span false (ea i)) (over_span no_span false (eb i)) m.dst (over_span no_span true m.registers))
      ∙ (λ i. marks (over_span no_span false (over_span (ex i) true m.srca)) (over_span no_span false (over_span (ey i) true m.srcb)) m.dst (over_span no_span true m.registers))

  pub rows_a_marked : (s : Span) {x : Span} → x ≡ s → {a : List Bool} → a ≡ over_span x true m.srca
      → marks a m.srcb m.dst m.registers ≡ instruction_marks m (rows_set s no_span) no_unsets
  rows_a_marked s ex ea = rows_marked s no_span ex refl ea (none_marked true m.srcb)

  -- nothing
  pub unmarked : m ≡ instruction_marks m no_sets no_unsets
  unmarked = rows_a_marked no_span refl (none_marked true m.srca)

  -- register r, at i
  pub register_marked : (t r : ℕ) {i : ℕ} → i ≡ register t r → {l : List Bool} → l ≡ over (within i 1) (λ n. true) m.registers
      → marks m.srca m.srcb m.dst l ≡ instruction_marks m (registers_set (one_register t r)) no_unsets
  unfolding instruction_marks
  register_marked t r ei el =
      (λ h. marks (none_marked true m.srca h) (none_marked true m.srcb h) m.dst (el h))
      ∙ (λ h. marks (none_marked false (over_span no_span true m.srca) h) (none_marked false (over_span no_span true m.srcb) h) m.dst (over (within (ei h) 1) (λ n. true) m.registers))
