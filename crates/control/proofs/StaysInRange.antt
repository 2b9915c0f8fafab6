-- What each operation makes of a record in range is in range. Assumes nothing.
use mathlib.Core.Path.{◌≡◌, refl}
use mathlib.Core.Bool.{Bool, true, false, cond}
use Prim.Native.Nat.{ℕ, ◌+◌, ◌*◌, ◌/◌, ◌%◌, ◌≤◌}
use native.Mathlib.Omega.{arith}
use lib.Bits.{bit_and, and_high}
use lib.Dec.{eqb, ltb}
use lib.ListN.{get_or, set}
use lib.Seq.{get_or-set_other}
use borrow.Author.Tests.{ltb-true, ltb-false}
use Rattle.cells.specs.Layout.{bank_count, thread_count}
use Rattle.cells.proofs.Cells.{split}
use Rattle.cells.proofs.Tests.{Each, each_of, all_of, below_of, of_below, set_keeps}
use Rattle.cells.specs.declared.layout.ByFile.{ByFile}
use Rattle.word.specs.declared.Which.{Which}
use Rattle.control.specs.Counter.{Src, Dst, ten, six, add10, add6, fits10, fits6, both, fit_tests, both_fit, added, stepped}
use Rattle.control.specs.Record.{start, start_thread, thread_at, slot_used, with_thread, with_banks, with_last, with_counters}
use Rattle.control.specs.Range.{src_ok, dst_ok, slots_ok, thread_tests, thread_ok, threads_ok, banks_tests, banks_ok, last_ok, range_tests, in_range}
use Rattle.control.specs.Change.{other_bank, cleared, clear_banks, hand_over, step_src, step_dst, step_phase, apply_slot, move_on, set_src, set_dst, set_counters, add_counters}
use Rattle.control.proofs.Bounds.{tests_of, thread_ok_lem}
use Rattle.control.proofs.Sums.{wraps, mod6, mod10, sum6, sum10}
use Rattle.control.specs.declared.Tracked.{Tracked}
use Rattle.control.specs.declared.PhaseStep.{PhaseStep}
use Rattle.control.specs.declared.Slot.{Slot}
use Rattle.control.specs.declared.Thread.{Thread}
use Rattle.control.specs.declared.Banks.{Banks}
use Rattle.control.specs.declared.Control.{Control}

of_tests : (c : Control) → Each (range_tests c) → in_range c ≡ true
unfolding in_range
of_tests c e = all_of (range_tests c) e

pub start_kept : in_range start ≡ true
unfolding in_range start threads_ok slots_ok
start_kept = refl

-- of two values in range the chosen one is
chosen_ok : {A : Type 0} (ok : A → Bool) (on : Bool) (x y : A) → ok x ≡ true → ok y ≡ true → ok (cond on x y) ≡ true
chosen_ok ok true x y h g = h
chosen_ok ok false x y h g = g

-- ---- banks

with_banks_kept : (c : Control) (a b : Banks) → in_range c ≡ true → (banks_ok c.a ≡ true → banks_ok a ≡ true) → (banks_ok c.b ≡ true → banks_ok b ≡ true)
    → in_range (with_banks c a b) ≡ true
with_banks_kept c a b h f g =
    let e = tests_of c h in
    of_tests (with_banks c a b) (e.0, (e.1.0, (f e.1.1.0, (g e.1.1.1.0, e.1.1.1.1))))

other_ok : (p : ℕ) → ltb (other_bank p) bank_count ≡ true
other_ok p = chosen_ok (λ (n : ℕ). ltb n bank_count) (eqb p 0) 1 0 refl refl

cleared_ok : (b : Banks) (keep : Bool) → banks_ok b ≡ true → banks_ok (cleared b keep) ≡ true
unfolding cleared
cleared_ok b true h = all_of (banks_tests (cleared b true)) (other_ok b.matrix, (each_of (banks_tests b) h).1)
cleared_ok b false h = all_of (banks_tests (cleared b false)) (other_ok b.matrix, (each_of (banks_tests b) h).1)

handed_ok : (b : Banks) → banks_ok b ≡ true → banks_ok (hand_over b) ≡ true
unfolding hand_over
handed_ok b h = all_of (banks_tests (hand_over b)) ((each_of (banks_tests b) h).0, (other_ok b.unpack, tt))

pub clear_kept : (c : Control) (f : ByFile Bool) → in_range c ≡ true → in_range (clear_banks c f) ≡ true
unfolding clear_banks
clear_kept c f h =
    with_banks_kept c _ _ h
    (λ k. chosen_ok banks_ok f.a (cleared c.a c.settings.keep.a) c.a (cleared_ok c.a c.settings.keep.a k) k)
    (λ k. chosen_ok banks_ok f.b (cleared c.b c.settings.keep.b) c.b (cleared_ok c.b c.settings.keep.b k) k)

pub hand_kept_a : (c : Control) → in_range c ≡ true → in_range (with_banks c (hand_over c.a) c.b) ≡ true
hand_kept_a c h = with_banks_kept c (hand_over c.a) c.b h (handed_ok c.a) (λ k. k)

pub hand_kept_b : (c : Control) → in_range c ≡ true → in_range (with_banks c c.a (hand_over c.b)) ≡ true
hand_kept_b c h = with_banks_kept c c.a (hand_over c.b) h (λ k. k) (handed_ok c.b)

-- ---- the last SrcA row

pub last_kept : (c : Control) (x : ℕ) → in_range c ≡ true → in_range (with_last c (bit_and x 0x30)) ≡ true
last_kept c x h =
    let e = tests_of c h in
    let four : last_ok (bit_and x 0x30) ≡ true = rw (and_high x 2 4) (below_of (λ (q : ℕ). last_ok (q * 16)) 4 refl (x / 16 % 4) (omega arith)) in
    of_tests (with_last c (bit_and x 0x30)) (e.0, (e.1.0, (e.1.1.0, (e.1.1.1.0, (four, tt)))))

-- ---- threads: a thread that stays in range keeps the record in range, whichever it is

with_thread_kept : (c : Control) (t : ℕ) (x : Thread) → in_range c ≡ true → (thread_ok (thread_at c t) ≡ true → thread_ok x ≡ true) → in_range (with_thread c t x) ≡ true
unfolding threads_ok
with_thread_kept c t x h f =
    let e = tests_of c h in
    of_tests (with_thread c t x) (
      e.0,
      (
        of_below (λ (k : ℕ). thread_ok (get_or (set c.threads t x) k start_thread)) thread_count
            (λ k l. split (ltb t thread_count)
            (λ i. set_keeps thread_ok start_thread x c.threads t k (thread_ok_lem c h k l) (f (thread_ok_lem c h t (ltb-true t thread_count i))))
            (λ o. let out : thread_count ≤ t = ltb-false t thread_count o in rw (get_or-set_other c.threads t k x start_thread (λ q. omega arith)) (thread_ok_lem c h k l))),
        e.1.1,
      ),
    )

counters_ok : (x : Thread) (d : Dst) (a b : Src) (p : ℕ) → dst_ok d ≡ true → src_ok a ≡ true → src_ok b ≡ true → ltb p 4 ≡ true → thread_ok x ≡ true
    → thread_ok (with_counters x d a b p) ≡ true
counters_ok x d a b p hd ha hb hp h =
    all_of (thread_tests (with_counters x d a b p)) (hd, (ha, (hb, (hp, (each_of (thread_tests x) h).1.1.1.1))))

-- a counter of either kind with its carry, whose sums are in range
module _ {C : Type 0} (fits : C → Bool) (plus : C → C → C) (sum_fits : (x y : C) → fits (plus x y) ≡ true) (t : Tracked C) (step : C) where
  added_ok : both_fit fits t ≡ true → both_fit fits (added plus t step) ≡ true
  added_ok h = all_of (fit_tests fits (added plus t step)) (sum_fits t.at step, ((each_of (fit_tests fits t) h).1.0, tt))

  stepped_ok : (zero : C) (clear copy carry : Bool) → fits zero ≡ true → both_fit fits t ≡ true → both_fit fits (stepped plus zero t step clear copy carry) ≡ true
  stepped_ok zero clear copy carry z h =
      chosen_ok (both_fit fits) clear _ _ (of_both zero z)
      (chosen_ok (both_fit fits) copy _ _ (of_both (plus t.at step) (sum_fits t.at step))
      (chosen_ok (both_fit fits) carry _ _ (of_both (plus t.carry step) (sum_fits t.carry step)) (added_ok h)))
    where
      of_both : (n : C) → fits n ≡ true → both_fit fits (both n) ≡ true
      of_both n e = all_of (fit_tests fits (both n)) (e, (e, tt))

phase_ok : (p : ℕ) (by : PhaseStep) → ltb (step_phase p by) 4 ≡ true
phase_ok p by = chosen_ok (λ (n : ℕ). ltb n 4) by.clear 0 _ refl (wraps 4 (omega arith) (p + by.step))

slot_ok_lem : (x : Thread) (s : Slot) → thread_ok x ≡ true → thread_ok (apply_slot x s) ≡ true
unfolding apply_slot
slot_ok_lem x s h =
    let e = each_of (thread_tests x) h in
    counters_ok x (step_dst x.dst s.dst) (step_src x.a s.a) (step_src x.b s.b) (step_phase x.phase s.phase)
    (stepped_ok fits10 add10 sum10 x.dst s.dst.step (ten 0) s.dst.clear s.dst.copy s.dst.carry refl e.0)
    (stepped_ok fits6 add6 sum6 x.a s.a.step (six 0) s.a.clear false s.a.carry refl e.1.0)
    (stepped_ok fits6 add6 sum6 x.b s.b.step (six 0) s.b.clear false s.b.carry refl e.1.1.0)
    (phase_ok x.phase s.phase)
    h

pub move_kept : (c : Control) (t n : ℕ) → in_range c ≡ true → in_range (move_on c t n) ≡ true
unfolding move_on
move_kept c t n h = with_thread_kept c t _ h (slot_ok_lem (thread_at c t) (slot_used (thread_at c t) n))

pub set_kept : (c : Control) (t : ℕ) (which : Which) (d b a : ℕ) → in_range c ≡ true → in_range (set_counters c t which d b a) ≡ true
unfolding set_counters
set_kept c t which d b a h =
    let x = thread_at c t in
    with_thread_kept c t _ h
    (λ k.
    let e = each_of (thread_tests x) k in
    counters_ok x (set_dst x.dst which.dst d) (set_src x.a which.a a) (set_src x.b which.b b) (cond which.phase 0 x.phase)
    (chosen_ok dst_ok which.dst _ x.dst (simp mod10) e.0)
    (chosen_ok src_ok which.a _ x.a (simp mod6) e.1.0)
    (chosen_ok src_ok which.b _ x.b (simp mod6) e.1.1.0)
    (chosen_ok (λ (n : ℕ). ltb n 4) which.phase 0 x.phase refl e.1.1.1.0)
    k)

pub add_kept : (c : Control) (t d b a : ℕ) → in_range c ≡ true → in_range (add_counters c t d b a) ≡ true
unfolding add_counters
add_kept c t d b a h =
    let x = thread_at c t in
    with_thread_kept c t _ h
    (λ k.
    let e = each_of (thread_tests x) k in
    counters_ok x (added add10 x.dst (ten d)) (added add6 x.a (six a)) (added add6 x.b (six b)) x.phase
    (added_ok fits10 add10 sum10 x.dst (ten d) e.0)
    (added_ok fits6 add6 sum6 x.a (six a) e.1.0)
    (added_ok fits6 add6 sum6 x.b (six b) e.1.1.0)
    e.1.1.1.0
    k)
