-- `job::settings::slot_at` meets its contract: a slot where it stands, and past the threads and their slots one that changes nothing. Assumes nothing.
use borrow.Author.Tests.{eq-eqb, ne_eqb}
use mathlib.Core.Path.{◌∙◌, sym}
use Rattle.job.proofs.Halves.{slot_past, slot_within, slot_outside}
use Rattle.job.proofs.settings.slot_at.Goals.{then-p-b-eq1, else-p-b-eq1}
use Rattle.job.proofs.settings.slot_at.Goals as goal

pub returns-then-thread-ge-THREADS : goal.returns-then-thread-ge-THREADS
returns-then-thread-ge-THREADS c = λ k. c.zero_slot.ensures ∙ sym (slot_past k _ _ _ c.if-thread-ge-THREADS.true)

pub returns-then-i-lt-SLOTS : goal.returns-then-i-lt-SLOTS
returns-then-i-lt-SLOTS c = λ k. c.read_slot.ensures ∙ sym (slot_within k _ _ _ c.if-thread-ge-THREADS.false _ (elim c.if-p-b-eq1.branch [ then-p-b-eq1 w ↦ rw (eq-eqb _ _ w.if-p-b-eq1.true) w.i-is | else-p-b-eq1 w ↦ rw (ne_eqb _ _ w.if-p-b-eq1.false) w.i-is ]) c.if-i-lt-SLOTS.true)

pub returns : goal.returns
returns c = λ k. c.zero_slot-2.ensures ∙ sym (slot_outside k _ _ _ c.if-thread-ge-THREADS.false _ (elim c.if-p-b-eq1.branch [ then-p-b-eq1 w ↦ rw (eq-eqb _ _ w.if-p-b-eq1.true) w.i-is | else-p-b-eq1 w ↦ rw (ne_eqb _ _ w.if-p-b-eq1.false) w.i-is ]) c.if-i-lt-SLOTS.false)
