-- Document 01, "Instruction fields" and "Numbers given back": what the word reader answers, in the paper's numbers: the opcode and the
-- fields that the instruction goes by, in the order of their row, or the number 2, or 3 and a bit. Definitions only.
use Rattle.std.specs.Prelude.{Bool, cond, List, [], ◌∷◌, map, ℕ, ◌+◌, ◌*◌, eqb, Option, None, Some, Result, Ok, Err}
use Rattle.word.specs.Bits.{bits, Range, ◌to◌}
use Rattle.word.specs.Table.{Row}
use Rattle.word.specs.Word.{row_of, stray_in, offending_in}
use Rattle.word.specs.Refusal.{number_of, bit_of}
use Rattle.word.specs.Operands.{multiply_of, legacy_of, set_counters_of, add_counters_of, zero_src_of, shift_a_of, shift_b_of, scalar_of}
use Rattle.cells.specs.declared.layout.ByFile.{ByFile}
use Rattle.word.specs.declared.Which.{Which}
use Rattle.word.specs.declared.Height.{Height}
use Rattle.word.specs.declared.Height.TheVariants.{Eight, Four}
use Rattle.word.specs.declared.Operation.{Operation}
use Rattle.word.specs.declared.Operation.TheVariants as operation
use Rattle.word.specs.declared.Multiply.{Multiply}
use Rattle.word.specs.declared.Legacy.{Legacy}
use Rattle.word.specs.declared.SetCounters.{SetCounters}
use Rattle.word.specs.declared.AddCounters.{AddCounters}
use Rattle.word.specs.declared.ZeroSrc.{ZeroSrc}
use Rattle.word.specs.declared.ShiftB.{ShiftB}
use Rattle.word.specs.declared.Scalar.{Scalar}
use Rattle.word.specs.declared.Class.{Class}
use Rattle.word.specs.declared.Class.TheVariants as class
use Rattle.word.specs.declared.Operands.{Operands}
use Rattle.word.specs.declared.Operands.TheVariants as operands
use Rattle.word.specs.declared.Refusal.{Refusal}

pub data WordAnswer : Type 0 where
  fields : ℕ → List ℕ → WordAnswer
  refused_by : ℕ → Option ℕ → WordAnswer

-- ---- of the reader's answer

-- a bit as a number
abbrev pub digit : Bool → ℕ
digit b = cond b 1 0

-- A 1, B 2
abbrev pub clear_number : ByFile Bool → ℕ
clear_number c = digit c.a + 2 * digit c.b

-- A 1, B 2, D 4, F 8
abbrev pub which_number : Which → ℕ
which_number x = digit x.a + 2 * digit x.b + 4 * digit x.dst + 8 * digit x.phase

abbrev pub multiply_numbers : Multiply → List ℕ
multiply_numbers m = clear_number m.clear ∷ m.mode ∷ m.slot ∷ m.dst ∷ []

abbrev pub legacy_numbers : Legacy → List ℕ
legacy_numbers l = clear_number l.clear ∷ l.slot ∷ []

abbrev pub set_counters_numbers : SetCounters → List ℕ
set_counters_numbers s = clear_number s.clear ∷ s.mode ∷ s.d ∷ s.b ∷ s.a ∷ which_number s.which ∷ []

abbrev pub add_counters_numbers : AddCounters → List ℕ
add_counters_numbers s = s.mode ∷ s.d ∷ s.b ∷ s.a ∷ []

abbrev pub zero_src_numbers : ZeroSrc → List ℕ
zero_src_numbers z = z.value ∷ digit z.write ∷ digit z.both ∷ digit z.b ∷ digit z.a ∷ []

abbrev pub shift_b_numbers : ShiftB → List ℕ
shift_b_numbers s = s.slot ∷ digit s.zero ∷ s.row ∷ []

abbrev pub scalar_numbers : Scalar → List ℕ
scalar_numbers s = digit s.constant ∷ s.mode ∷ s.result ∷ s.b ∷ s.a ∷ []

-- instructions that do the same have one opcode here, the first one's: MVMUL's for DOTPV, CONV3S1's for the legacy six, GATESRCRST's for the three that
-- change nothing
abbrev pub height_opcode : Height → ℕ
height_opcode Eight = 0x26
height_opcode Four = 0x34

abbrev pub operation_opcode : Operation → ℕ
operation_opcode operation.Bitwise = 0x5B
operation_opcode operation.Shift = 0x5C
operation_opcode operation.Compare = 0x5D

abbrev pub operands_answer : Operands → WordAnswer
operands_answer (operands.Multiply x) = fields (height_opcode (multiply_of x).height) (multiply_numbers (multiply_of x))
operands_answer (operands.Legacy x) = fields 0x22 (legacy_numbers (legacy_of x))
operands_answer (operands.SetCounters x) = fields 0x37 (set_counters_numbers (set_counters_of x))
operands_answer (operands.AddCounters x) = fields 0x38 (add_counters_numbers (add_counters_of x))
operands_answer (operands.ZeroSrc x) = fields 0x11 (zero_src_numbers (zero_src_of x))
operands_answer (operands.ShiftA x) = fields 0x17 (shift_a_of x ∷ [])
operands_answer (operands.ShiftB x) = fields 0x18 (shift_b_numbers (shift_b_of x))
operands_answer operands.NoEffect = fields 0x35 []
operands_answer (operands.Scalar x) = fields (operation_opcode (scalar_of x).op) (scalar_numbers (scalar_of x))

abbrev pub read_answer : Result Operands Refusal → WordAnswer
read_answer (Ok f) = operands_answer f
read_answer (Err r) = refused_by (number_of r) (bit_of r)

-- ---- of the word

-- The fields that an instruction goes by: all that its row names, but of the six legacy instructions clear and slot only, and none of the three that change
-- nothing.
abbrev pub used_of : Class → List Range → List Range
used_of class.Multiply named = named
used_of class.Legacy named = (23 to 22) ∷ (15 to 14) ∷ []
used_of class.SetCounters named = named
used_of class.AddCounters named = named
used_of class.ZeroSrc named = named
used_of class.ShiftA named = named
used_of class.ShiftB named = named
used_of class.NoEffect named = []
used_of class.Scalar named = named

-- and the opcode: the first one's of those that do the same
abbrev pub used_opcode : Class → ℕ → ℕ
used_opcode class.Multiply opcode = cond (eqb opcode 0x29) 0x26 opcode
used_opcode class.Legacy opcode = 0x22
used_opcode class.SetCounters opcode = opcode
used_opcode class.AddCounters opcode = opcode
used_opcode class.ZeroSrc opcode = opcode
used_opcode class.ShiftA opcode = opcode
used_opcode class.ShiftB opcode = opcode
used_opcode class.NoEffect opcode = 0x35
used_opcode class.Scalar opcode = opcode

abbrev pub row_fields : Row → ℕ → List ℕ
row_fields r w = map (λ (x : Range). bits w x.hi x.lo) (used_of r.class r.named)

abbrev pub answer_in : Option Row → ℕ → WordAnswer
answer_in None w = refused_by 2 None
answer_in (Some r) w = cond (stray_in (Some r) w) (refused_by 3 (Some (offending_in (Some r) w))) (fields (used_opcode r.class r.opcode) (row_fields r w))

-- 2 for an unknown opcode, else 3 for an unnamed bit that is 1, and the lowest such bit, else the fields
unfoldable pub word_answer : ℕ → WordAnswer
word_answer w = answer_in (row_of w) w
