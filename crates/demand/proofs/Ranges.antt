-- The test of a record's range passes exactly where the record is in range as it is spelled out. Assumes nothing.
use mathlib.Core.Path.{◌≡◌}
use mathlib.Core.Bool.{true}
use mathlib.Core.Logic.{◌⊎◌, inl, inr, ⊎_elim}
use Prim.Native.Nat.{ℕ, suc, ◌≤◌}
use native.Mathlib.Omega.{arith}
use borrow.Author.Tests.{ltb-true, lt-ltb, eqb-true}
use lib.Dec.{ltb, eqb}
use lib.ListN.{get_or}
use Rattle.cells.proofs.Cells.{split}
use Rattle.cells.proofs.Tests.{each_of, all_of, below_of, of_below}
use Rattle.control.specs.Record.{start_thread, zero_slot}
use Rattle.control.specs.Range.{src_tests, src_ok, dst_tests, slot_tests, slot_ok, slots_ok, thread_tests, thread_ok, threads_ok, banks_tests, banks_ok, settings_tests, last_ok, range_tests, in_range}
use Rattle.control.specs.declared.Slot.{Slot}
use Rattle.control.specs.Counter.{Src}
use Rattle.control.specs.declared.Banks.{Banks}
use Rattle.control.specs.declared.Thread.{Thread}
use Rattle.control.specs.declared.Control.{Control}
use Rattle.demand.specs.RecordRange.{SrcIn, StepsIn, CountersIn, PointersIn, RecordIn}

-- ---- a bound as a test

pub upto : {n : ℕ} (k : ℕ) → n ≤ k → ltb n (suc k) ≡ true
upto {n} k h = lt-ltb n (suc k) (omega arith)

pub least : {n : ℕ} (k : ℕ) → ltb n (suc k) ≡ true → n ≤ k
least {n} k e = omega (arith, ltb-true n (suc k) e)

-- ---- the parts

src_ok_lem : (x : Src) → SrcIn x → src_ok x ≡ true
src_ok_lem x h = all_of (src_tests x) (upto 63 h.counter, (upto 63 h.carry, tt))

src_in : (x : Src) → src_ok x ≡ true → SrcIn x
src_in x e = let t = each_of (src_tests x) e in record { counter = least 63 t.0; carry = least 63 t.1.0 }

slot_ok_lem : (x : Slot) → StepsIn x → slot_ok x ≡ true
slot_ok_lem x h = all_of (slot_tests x) (upto 63 h.srca, (upto 63 h.srcb, (upto 1023 h.dst, (upto 3 h.fidelity, tt))))

slot_in_lem : (x : Slot) → slot_ok x ≡ true → StepsIn x
slot_in_lem x e =
    let t = each_of (slot_tests x) e in
    record { srca = least 63 t.0; srcb = least 63 t.1.0; dst = least 1023 t.1.1.0; fidelity = least 3 t.1.1.1.0 }

thread_ok_lem : (x : Thread) → CountersIn x → thread_ok x ≡ true
unfolding slots_ok
thread_ok_lem x h =
    all_of (thread_tests x) (
      all_of (dst_tests x.dst) (upto 1023 h.dst, (upto 1023 h.carry, tt)),
      (
        src_ok_lem x.a h.srca,
        (
          src_ok_lem x.b h.srcb,
          (
            upto 3 h.phase,
            (
              upto 1023 h.offset,
              (
                upto 3 h.fidelity,
                (of_below (λ (i : ℕ). slot_ok (get_or x.slots i zero_slot)) 8 (λ s l. slot_ok_lem (get_or x.slots s zero_slot) (h.slots s l)), tt),
              ),
            ),
          ),
        ),
      ),
    )

thread_in : (x : Thread) → thread_ok x ≡ true → CountersIn x
unfolding slots_ok
thread_in x e =
    let t = each_of (thread_tests x) e in
    let d = each_of (dst_tests x.dst) t.0 in
    record {
      dst = least 1023 d.0;
      carry = least 1023 d.1.0;
      srca = src_in x.a t.1.0;
      srcb = src_in x.b t.1.1.0;
      phase = least 3 t.1.1.1.0;
      offset = least 1023 t.1.1.1.1.0;
      fidelity = least 3 t.1.1.1.1.1.0;
      slots = λ s l. slot_in_lem (get_or x.slots s zero_slot) (below_of (λ (i : ℕ). slot_ok (get_or x.slots i zero_slot)) 8 t.1.1.1.1.1.1.0 s l);
    }

banks_ok_lem : (x : Banks) → PointersIn x → banks_ok x ≡ true
banks_ok_lem x h = all_of (banks_tests x) (upto 1 h.matrix, (upto 1 h.unpack, tt))

banks_in : (x : Banks) → banks_ok x ≡ true → PointersIn x
banks_in x e = let t = each_of (banks_tests x) e in record { matrix = least 1 t.0; unpack = least 1 t.1.0 }

last_ok_lem : (n : ℕ) → (n ≡ 0) ⊎ ((n ≡ 16) ⊎ ((n ≡ 32) ⊎ (n ≡ 48))) → last_ok n ≡ true
last_ok_lem n h = ⊎_elim (λ e. rw e) (⊎_elim (λ e. rw e) (⊎_elim (λ e. rw e) (λ e. rw e))) h

last_in : (n : ℕ) → last_ok n ≡ true → (n ≡ 0) ⊎ ((n ≡ 16) ⊎ ((n ≡ 32) ⊎ (n ≡ 48)))
last_in n e =
    split (eqb n 0) (λ a. inl (eqb-true n 0 a))
    (λ a. inr (split (eqb n 16) (λ b. inl (eqb-true n 16 b))
    (λ b. inr (split (eqb n 32) (λ c. inl (eqb-true n 32 c))
    (λ c. inr (eqb-true n 48 (rw (a, b, c) at e)))))))

-- ---- the record

pub record_ok : (c : Control) → RecordIn c → in_range c ≡ true
unfolding in_range threads_ok
record_ok c h =
    all_of (range_tests c) (
      all_of (settings_tests c.settings) (upto 13 h.format, (upto 1023 h.base, tt)),
      (
        of_below (λ (i : ℕ). thread_ok (get_or c.threads i start_thread)) 3 (λ t l. thread_ok_lem (get_or c.threads t start_thread) (h.threads t l)),
        (banks_ok_lem c.a h.srca, (banks_ok_lem c.b h.srcb, (last_ok_lem c.last h.last, tt))),
      ),
    )

pub record_in : (c : Control) → in_range c ≡ true → RecordIn c
unfolding in_range threads_ok
record_in c e =
    let t = each_of (range_tests c) e in
    let s = each_of (settings_tests c.settings) t.0 in
    record {
      format = least 13 s.0;
      base = least 1023 s.1.0;
      threads = λ k l. thread_in (get_or c.threads k start_thread) (below_of (λ (i : ℕ). thread_ok (get_or c.threads i start_thread)) 3 t.1.0 k l);
      srca = banks_in c.a t.1.1.0;
      srcb = banks_in c.b t.1.1.1.0;
      last = last_in c.last t.1.1.1.1.0;
    }
