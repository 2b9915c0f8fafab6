-- BITWOPDMAREG, SHIFTDMAREG, CMPDMAREG: document 01, "Scalar", the numbers: all unsigned, 32 bits. Definitions only.
use Rattle.std.specs.Prelude.{cond, List, ℕ, ◌*◌, ◌/◌, ◌%◌, ◌^◌, eqb, ltb, get_or}
use Rattle.std.specs.Int.Bits.{bit_and, bit_or, bit_xor}
use Rattle.cells.specs.Layout.{register, one_register}
use Rattle.cells.specs.Cells.{over_span}
use Rattle.cells.specs.State.{State, with_registers}
use Rattle.word.specs.declared.Operation.{Operation}
use Rattle.word.specs.declared.Operation.TheVariants.{Bitwise, Shift, Compare}
use Rattle.word.specs.declared.Scalar.{Scalar}

-- and, or, xor
abbrev pub bitwise_of : ℕ → ℕ → ℕ → ℕ
bitwise_of mode x y = cond (eqb mode 0) (bit_and x y) (cond (eqb mode 1) (bit_or x y) (bit_xor x y))

-- left, right, by B's low 5 bits
abbrev pub shift_of : ℕ → ℕ → ℕ → ℕ
shift_of mode x y = cond (eqb mode 0) (x * 2 ^ (y % 32) % 2 ^ 32) (x / 2 ^ (y % 32))

-- above, below, equal
abbrev pub compare_of : ℕ → ℕ → ℕ → ℕ
compare_of mode x y = cond (cond (eqb mode 0) (ltb y x) (cond (eqb mode 1) (ltb x y) (eqb x y))) 1 0

abbrev pub computed : Operation → ℕ → ℕ → ℕ → ℕ
computed Bitwise mode x y = bitwise_of mode x y
computed Shift mode x y = shift_of mode x y
computed Compare mode x y = compare_of mode x y

-- B is a register or a constant of 6 bits
abbrev pub operand_b : ℕ → Scalar → List ℕ → ℕ
operand_b t x l = cond x.constant x.b (get_or l (register t x.b) 0)

unfoldable pub scalar_result : ℕ → Scalar → List ℕ → ℕ
scalar_result t x l = computed x.op x.mode (get_or l (register t x.a) 0) (operand_b t x l)

unfoldable pub scalar : ℕ → Scalar → List ℕ → List ℕ
scalar t x l = over_span (one_register t x.result) (scalar_result t x l) l

abbrev pub scalar_effect : ℕ → Scalar → State → State
scalar_effect t x s = with_registers s (scalar t x s.registers)
