-- Document 01, "The lent state and the control record": when a control record is in range, spelled out apart from the test that the single step goes by.
-- Definitions only.
use Rattle.std.specs.Prelude.{◌≡◌, ◌⊎◌, ℕ, ◌≤◌, ◌<◌, get_or}
use Rattle.control.specs.Record.{start_thread, zero_slot}
use Rattle.control.specs.declared.Slot.{Slot}
use Rattle.control.specs.Counter.{Src}
use Rattle.control.specs.declared.Banks.{Banks}
use Rattle.control.specs.declared.Thread.{Thread}
use Rattle.control.specs.declared.Control.{Control}

-- counter and carry of SrcA or SrcB: 0..63
pub record SrcIn (x : Src) : Type 0 where
  pub counter : x.at.0 ≤ 63
  pub carry : x.carry.0 ≤ 63

-- a slot as tag 1 allows: SrcA and SrcB step 0..63, Dst step 0..1023, fidelity step 0..3
pub record StepsIn (x : Slot) : Type 0 where
  pub srca : x.a.step.0 ≤ 63
  pub srcb : x.b.step.0 ≤ 63
  pub dst : x.dst.step.0 ≤ 1023
  pub fidelity : x.phase.step ≤ 3

-- Dst counter and carry 0..1023, FidelityPhase 0..3; math offset 0..1023, fidelity base 0..3 and eight slots as tag 1 allows
pub record CountersIn (x : Thread) : Type 0 where
  pub dst : x.dst.at.0 ≤ 1023
  pub carry : x.dst.carry.0 ≤ 1023
  pub srca : SrcIn x.a
  pub srcb : SrcIn x.b
  pub phase : x.phase ≤ 3
  pub offset : x.offset ≤ 1023
  pub fidelity : x.fidelity ≤ 3
  pub slots : (s : ℕ) → s < 8 → StepsIn (get_or x.slots s zero_slot)

-- the matrix unit's and the unpackers' pointer: 0 or 1
pub record PointersIn (x : Banks) : Type 0 where
  pub matrix : x.matrix ≤ 1
  pub unpack : x.unpack ≤ 1

-- SrcA format 0..13 and DEST_REGW_BASE 0..1023 as tag 1 allows; three threads; the last SrcA row 0, 16, 32 or 48
pub record RecordIn (c : Control) : Type 0 where
  pub format : c.settings.format ≤ 13
  pub base : c.settings.base ≤ 1023
  pub threads : (t : ℕ) → t < 3 → CountersIn (get_or c.threads t start_thread)
  pub srca : PointersIn c.a
  pub srcb : PointersIn c.b
  pub last : (c.last ≡ 0) ⊎ ((c.last ≡ 16) ⊎ ((c.last ≡ 32) ⊎ (c.last ≡ 48)))
