-- Document 01, "Instruction fields": the fields of a word by its class. Definitions only.
use Rattle.std.specs.Prelude.{Bool, cond, ℕ, eqb}
use Rattle.word.specs.Bits.{bits, bit}
use Rattle.cells.specs.declared.layout.ByFile.{ByFile}
use Rattle.word.specs.declared.Which.{Which}
use Rattle.word.specs.declared.Height.{Height}
use Rattle.word.specs.declared.Height.TheVariants.{Eight, Four}
use Rattle.word.specs.declared.Multiply.{Multiply}
use Rattle.word.specs.declared.Legacy.{Legacy}
use Rattle.word.specs.declared.SetCounters.{SetCounters}
use Rattle.word.specs.declared.AddCounters.{AddCounters}
use Rattle.word.specs.declared.ZeroSrc.{ZeroSrc}
use Rattle.word.specs.declared.ShiftB.{ShiftB}
use Rattle.word.specs.declared.Operation.{Operation}
use Rattle.word.specs.declared.Operation.TheVariants as operation
use Rattle.word.specs.declared.Scalar.{Scalar}
use Rattle.word.specs.declared.MultiplyWord.{MultiplyWord}
use Rattle.word.specs.declared.LegacyWord.{LegacyWord}
use Rattle.word.specs.declared.SetCountersWord.{SetCountersWord}
use Rattle.word.specs.declared.AddCountersWord.{AddCountersWord}
use Rattle.word.specs.declared.ZeroSrcWord.{ZeroSrcWord}
use Rattle.word.specs.declared.ShiftAWord.{ShiftAWord}
use Rattle.word.specs.declared.ShiftBWord.{ShiftBWord}
use Rattle.word.specs.declared.ScalarWord.{ScalarWord}
use Rattle.word.specs.declared.Class.{Class}
use Rattle.word.specs.declared.Class.TheVariants as class
use Rattle.word.specs.declared.Operands.{Operands}
use Rattle.word.specs.declared.Operands.TheVariants as operands

-- bits 31:24
abbrev pub opcode_of : ℕ → ℕ
opcode_of w = bits w 31 24

-- 23:22 clear: bit 0 of the field for A, bit 1 for B
abbrev pub clear_of : ℕ → ByFile Bool
clear_of w = record { a = bit w 22; b = bit w 23 }

-- 3:0 which: A 1, B 2, D 4, F 8
abbrev pub which_of : ℕ → Which
which_of w = record { a = bit w 0; b = bit w 1; dst = bit w 2; phase = bit w 3 }

-- MVMUL and DOTPV do eight rows, GAPOOL four
abbrev pub height_of : ℕ → Height
height_of w = cond (eqb (opcode_of w) 0x34) Four Eight

-- 15:14 slot; GAPOOL has it at 16:15
abbrev pub multiply_slot : Height → ℕ → ℕ
multiply_slot Eight w = bits w 15 14
multiply_slot Four w = bits w 16 15

-- MVMUL, DOTPV, GAPOOL
abbrev pub multiply_of : MultiplyWord → Multiply
multiply_of x =
    let w = x.0 in
    record { height = height_of w; clear = clear_of w; mode = bits w 21 19; slot = multiply_slot (height_of w) w; dst = bits w 13 0 }

-- CONV3S1, CONV3S2, MPOOL3S1, APOOL3S1, MPOOL3S2, APOOL3S2: their other named bits are not gone by
abbrev pub legacy_of : LegacyWord → Legacy
legacy_of x = record { clear = clear_of x.0; slot = bits x.0 15 14 }

-- SETRWC
abbrev pub set_counters_of : SetCountersWord → SetCounters
set_counters_of x =
    let w = x.0 in
    record { clear = clear_of w; mode = bits w 21 18; d = bits w 17 14; b = bits w 13 10; a = bits w 9 6; which = which_of w }

-- INCRWC
abbrev pub add_counters_of : AddCountersWord → AddCounters
add_counters_of x = let w = x.0 in record { mode = bits w 23 18; d = bits w 17 14; b = bits w 13 10; a = bits w 9 6 }

-- ZEROSRC
abbrev pub zero_src_of : ZeroSrcWord → ZeroSrc
zero_src_of x = let w = x.0 in record { value = bits w 23 4; write = bit w 3; both = bit w 2; b = bit w 1; a = bit w 0 }

-- SHIFTXA: 1:0 mode
abbrev pub shift_a_of : ShiftAWord → ℕ
shift_a_of x = bits x.0 1 0

-- SHIFTXB
abbrev pub shift_b_of : ShiftBWord → ShiftB
shift_b_of x = let w = x.0 in record { slot = bits w 15 14; zero = bit w 10; row = bits w 9 0 }

-- BITWOPDMAREG, SHIFTDMAREG, CMPDMAREG
abbrev pub operation_of : ℕ → Operation
operation_of w = cond (eqb (opcode_of w) 0x5B) operation.Bitwise (cond (eqb (opcode_of w) 0x5C) operation.Shift operation.Compare)

abbrev pub scalar_of : ScalarWord → Scalar
scalar_of x =
    let w = x.0 in
    record { op = operation_of w; constant = bit w 23; mode = bits w 20 18; result = bits w 17 12; b = bits w 11 6; a = bits w 5 0 }

-- a word by its class
abbrev pub operands_of : Class → ℕ → Operands
operands_of class.Multiply w = operands.Multiply (record { 0 = w })
operands_of class.Legacy w = operands.Legacy (record { 0 = w })
operands_of class.SetCounters w = operands.SetCounters (record { 0 = w })
operands_of class.AddCounters w = operands.AddCounters (record { 0 = w })
operands_of class.ZeroSrc w = operands.ZeroSrc (record { 0 = w })
operands_of class.ShiftA w = operands.ShiftA (record { 0 = w })
operands_of class.ShiftB w = operands.ShiftB (record { 0 = w })
operands_of class.NoEffect w = operands.NoEffect
operands_of class.Scalar w = operands.Scalar (record { 0 = w })
