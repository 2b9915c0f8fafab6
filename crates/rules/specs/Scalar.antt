-- BITWOPDMAREG, SHIFTDMAREG, CMPDMAREG: document 01, "Scalar", all but the numbers. Definitions only.
use Rattle.std.specs.Prelude.{cond, ℕ, leb}
use Rattle.cells.specs.declared.layout.Span.{Span}
use Rattle.cells.specs.Layout.{no_span, one_register}
use Rattle.word.specs.declared.Operation.{Operation}
use Rattle.word.specs.declared.Operation.TheVariants.{Bitwise, Shift, Compare}
use Rattle.word.specs.declared.Scalar.{Scalar}
use Rattle.rules.specs.Vocabulary.{Meaning, quiet, ◌·◌, undefined_if, reading, setting, registers_read, registers_set}

-- how many modes are defined, from 0 on: and, or, xor; left, right; above, below, equal
abbrev pub scalar_modes : Operation → ℕ
scalar_modes Bitwise = 3
scalar_modes Shift = 2
scalar_modes Compare = 3

-- B is a register or a constant
abbrev pub scalar_b : ℕ → Scalar → Span
scalar_b t s = cond s.constant no_span (one_register t s.b)

-- it reads A, and B unless constant; its result sets its register
abbrev pub scalar_meaning : Scalar → Meaning
scalar_meaning s =
    quiet
    · undefined_if (leb (scalar_modes s.op) s.mode)
    · reading (λ c t. registers_read (one_register t s.a) (scalar_b t s))
    · setting (λ c t. registers_set (one_register t s.result))
