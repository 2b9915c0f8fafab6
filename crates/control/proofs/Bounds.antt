-- What the range of a record says of its parts. Assumes nothing.
use mathlib.Core.Path.{◌≡◌, sym, ◌∙◌}
use mathlib.Core.Bool.{true, false≢true}
use Prim.Native.Nat.{ℕ, ◌<◌, ◌≤◌}
use native.Mathlib.Omega.{arith}
use lib.Dec.{leb}
use borrow.Author.Tests.{ltb-true, leb-true, leb-false, ne_eqb}
use Rattle.cells.specs.Layout.{bank_count, thread_count}
use Rattle.cells.proofs.Cells.{split}
use Rattle.cells.proofs.Tests.{Each, each_of, below_of}
use Rattle.control.specs.Record.{thread_at}
use Rattle.control.specs.Range.{thread_ok, threads_ok, banks_tests, settings_tests, last_ok, range_tests, in_range}
use Rattle.control.specs.declared.Control.{Control}

pub tests_of : (c : Control) → in_range c ≡ true → Each (range_tests c)
unfolding in_range
tests_of c h = each_of (range_tests c) h

pub thread_ok_lem : (c : Control) → in_range c ≡ true → (t : ℕ) → t < thread_count → thread_ok (thread_at c t) ≡ true
unfolding threads_ok
thread_ok_lem c h t l = below_of (λ (k : ℕ). thread_ok (thread_at c k)) thread_count (tests_of c h).1.0 t l

last_ok_lem : (c : Control) → in_range c ≡ true → last_ok c.last ≡ true
last_ok_lem c h = (tests_of c h).1.1.1.1.0

last_most : (n : ℕ) → last_ok n ≡ true → n ≤ 48
last_most n h =
    split (leb n 48) (λ e. leb-true n 48 e)
    (λ e.
    let b : 48 < n = leb-false n 48 e in
    absurd (false≢true (sym (simp (ne_eqb n 0 (λ q. omega arith), ne_eqb n 16 (λ q. omega arith), ne_eqb n 32 (λ q. omega arith), ne_eqb n 48 (λ q. omega arith))) ∙ h)))

-- the numbers that the threads share
pub record SharedBounds (c : Control) : Type 0 where
  pub a_matrix : c.a.matrix < bank_count
  pub a_unpack : c.a.unpack < bank_count
  pub b_matrix : c.b.matrix < bank_count
  pub b_unpack : c.b.unpack < bank_count
  pub format : c.settings.format < 14
  pub base : c.settings.base < 1024
  pub last : c.last ≤ 48

pub shared_bounds : (c : Control) → in_range c ≡ true → SharedBounds c
shared_bounds c h =
    let e = tests_of c h in
    let s = each_of (settings_tests c.settings) e.0 in
    let a = each_of (banks_tests c.a) e.1.1.0 in
    let b = each_of (banks_tests c.b) e.1.1.1.0 in
    record {
      a_matrix = ltb-true _ _ a.0;
      a_unpack = ltb-true _ _ a.1.0;
      b_matrix = ltb-true _ _ b.0;
      b_unpack = ltb-true _ _ b.1.0;
      format = ltb-true _ _ s.0;
      base = ltb-true _ _ s.1.0;
      last = last_most c.last (last_ok_lem c h);
    }
