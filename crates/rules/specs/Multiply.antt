-- MVMUL, DOTPV, GAPOOL: document 01, "Multiply", all but the numbers. Definitions only.
use Rattle.std.specs.Prelude.{Bool, ◌&&◌, ◌||◌, not, ℕ, ◌+◌, ◌%◌, eqb, leb}
use Rattle.std.specs.Int.Bits.{bit_and}
use Rattle.cells.specs.Layout.{bank_row, span}
use Rattle.word.specs.declared.Height.{Height}
use Rattle.word.specs.declared.Height.TheVariants.{Eight, Four}
use Rattle.word.specs.declared.Multiply.{Multiply}
use Rattle.control.specs.declared.Settings.{Settings}
use Rattle.control.specs.declared.Own.{Own}
use Rattle.control.specs.declared.Control.{Control}
use Rattle.control.specs.Record.{bf16_mode, thread_at}
use Rattle.control.specs.Halves.{own_of}
use Rattle.rules.specs.declared.Reads.{Reads}
use Rattle.rules.specs.Vocabulary.{Both, SlotAndLast, Meaning, quiet, ◌·◌, undefined_if, modelled_for, needing, on_dst, reading, clearing, moving, rows_read}

-- MVMUL and DOTPV do 8 rows, GAPOOL 4
abbrev pub height_rows : Height → ℕ
height_rows Eight = 8
height_rows Four = 4

-- how many modes are defined, from 0 on: MVMUL and DOTPV must have 0, GAPOOL has 0 and 1
abbrev pub multiply_modes : Height → ℕ
multiply_modes Eight = 1
multiply_modes Four = 2

-- modelled for Fp32 on, INT8 and FP16A off, format 2 or 6
abbrev pub fp32_mode : Settings → Bool
fp32_mode s = ((s.fp32 && not s.int8) && not s.fp16a) && (eqb s.format 2 || eqb s.format 6)

-- and in the BF16 mode
abbrev pub modelled : Settings → Bool
modelled s = fp32_mode s || bf16_mode s.format s.fp32 s.int8 s.fp16a

-- ---- the rows, by the thread's own numbers

-- a = SrcA counter & 0x30; b = SrcB counter & 0x38
abbrev pub counted_a : Own → ℕ
counted_a x = bit_and x.a.at.0 0x30

abbrev pub counted_b : Own → ℕ
counted_b x = bit_and x.b.at.0 0x38

-- the mask of the Dst row: & 0x3F8; GAPOOL & 0x3FC
abbrev pub height_mask : Height → ℕ
height_mask Eight = 0x3F8
height_mask Four = 0x3FC

-- Dst row = (dst + math offset + Dst counter + base), masked
abbrev pub counted_dst : ℕ → Own → Height → ℕ → ℕ
counted_dst base x h dst = bit_and (dst + x.offset + x.dst.at.0 + base) (height_mask h)

-- phase = (FidelityPhase + fidelity base) mod 4
abbrev pub counted_phase : Own → ℕ
counted_phase x = (x.phase + x.fidelity) % 4

-- the same of thread t
unfoldable pub row_a : Control → ℕ → ℕ
row_a c t = counted_a (own_of (thread_at c t))

unfoldable pub row_b : Control → ℕ → ℕ
row_b c t = counted_b (own_of (thread_at c t))

unfoldable pub row_dst : Control → ℕ → Height → ℕ → ℕ
row_dst c t h dst = counted_dst c.settings.base (own_of (thread_at c t)) h dst

abbrev pub phase_of : Control → ℕ → ℕ
phase_of c t = counted_phase (own_of (thread_at c t))

-- ---- all of it

-- it reads 16 SrcA, its 8 or 4 SrcB and its Dst rows
abbrev pub multiply_reads : Multiply → Control → ℕ → Reads
multiply_reads m c t =
    rows_read (span (bank_row c.a.matrix (row_a c t)) 16) (span (bank_row c.b.matrix (row_b c t)) (height_rows m.height))
    (span (row_dst c t m.height m.dst) (height_rows m.height))

-- it needs both matrix banks; then comes clear, then the slot, and the last SrcA row becomes a
abbrev pub multiply_meaning : Multiply → Meaning
multiply_meaning m =
    quiet
    · undefined_if (leb (multiply_modes m.height) m.mode)
    · modelled_for modelled
    · needing Both
    · on_dst m.height m.dst
    · reading (multiply_reads m)
    · clearing m.clear
    · moving (SlotAndLast m.slot)
