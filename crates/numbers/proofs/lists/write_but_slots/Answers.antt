-- `numbers::lists::write_but_slots` meets its contract: the shared numbers, then each thread's own. Assumes nothing.
use mathlib.Core.Path.{◌≡◌, refl, ap, ◌∙◌}
use mathlib.Core.Bool.{true}
use Prim.Native.Nat.{ℕ}
use native.Mathlib.Omega.{arith}
use lib.Dec.{ltb}
use lib.ListN.{length, get_or}
use borrow.Author.Tests.{ltb-true, ne_eqb}
use Rattle.cells.specs.Layout.{thread_count}
use Rattle.control.specs.Record.{start_thread, thread_at}
use Rattle.control.specs.declared.Control.{Control}
use Rattle.control.specs.declared.Thread.{Thread}
use Rattle.control.proofs.Arrays.{get_d_in}
use Rattle.numbers.specs.Lists.{own_numbers, but_slots_over}
use Rattle.numbers.proofs.Parts.{outside_shared, outside_thread, outside_all}
use Rattle.numbers.proofs.lists.write_but_slots.Goals as goal

-- the own numbers of a thread that is copied out of the array are those of the record's
own : (c : Control) (t : ℕ) (d : Thread) → length c.threads ≡ thread_count → ltb t thread_count ≡ true → own_numbers (get_or c.threads t d) ≡ own_numbers (thread_at c t)
own c t d e h = ap (λ (x : Thread). own_numbers x) (get_d_in c.threads d start_thread t (omega (arith, ltb-true t thread_count h)))

pub returns-then-n-ne-RECORD : goal.returns-then-n-ne-RECORD
unfolding but_slots_over
returns-then-n-ne-RECORD c = simp (ne_eqb _ _ c.if-n-ne-RECORD.true)

pub returns : goal.returns
returns c =
    let three : length c.args.c.threads ≡ thread_count = omega arith in
    let s = outside_shared c.shared_numbers.ensures c.put.ensures in
    let x = outside_thread 0 (c.own_numbers.ensures ∙ own c.args.c 0 _ three refl) s c.put-2.ensures in
    let y = outside_thread 1 (c.own_numbers-2.ensures ∙ own c.args.c 1 _ three refl) x c.put-3.ensures in
    let z = outside_thread 2 (c.own_numbers-3.ensures ∙ own c.args.c 2 _ three refl) y c.put-4.ensures in
    outside_all c.args.c z c.if-n-ne-RECORD.false
