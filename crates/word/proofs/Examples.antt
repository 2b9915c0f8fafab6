-- Words in the paper's numbers, worked: the three scalar instructions of its worked numbers (xor of register 1 and the constant 5 into register 3; the constant 33), INCRWC, GAPOOL,
-- DOTPV, a legacy instruction with a dst, SHIFTXB, MVMUL with all its mode bits, which are named; an unknown opcode, whatever its bits; GAPOOL's bit 14 and
-- SETRWC's bit 4, which the paper does not name; MVMUL's bit 16, the lowest of 16 to 18; CLREXPHIST, which names none, with all bits 1 and with bit 23 alone. Assumes nothing.
use Rattle.std.specs.Prelude.{None, Some}
use mathlib.Core.Path.{◌≡◌, refl}
use mathlib.Core.List.{[], ◌∷◌, map}
use Rattle.cells.specs.Cells.{between}
use Rattle.word.specs.Table.{table}
use Rattle.word.specs.Fields.{fields, refused_by, word_answer}

pub answers : map word_answer
    (0x5B883141 ∷ 0x5C802841 ∷ 0x5D000081 ∷ 0x38020000 ∷ 0x3400000D
    ∷ 0x29C0C200 ∷ 0x31C2C1FF ∷ 0x18000400 ∷ 0x26380000 ∷ 0x27000000 ∷ 0x27FFFFFF ∷ 0x34004000 ∷ 0x37000010
    ∷ 0x26FFFFFF ∷ 0x21FFFFFF ∷ 0x21800000 ∷ [])
    ≡ (fields 0x5B (1 ∷ 2 ∷ 3 ∷ 5 ∷ 1 ∷ [])
    ∷ fields 0x5C (1 ∷ 0 ∷ 2 ∷ 33 ∷ 1 ∷ [])
    ∷ fields 0x5D (0 ∷ 0 ∷ 0 ∷ 2 ∷ 1 ∷ [])
    ∷ fields 0x38 (0 ∷ 8 ∷ 0 ∷ 0 ∷ [])
    ∷ fields 0x34 (0 ∷ 0 ∷ 0 ∷ 13 ∷ [])
    ∷ fields 0x26 (3 ∷ 0 ∷ 3 ∷ 512 ∷ [])
    ∷ fields 0x22 (3 ∷ 3 ∷ [])
    ∷ fields 0x18 (0 ∷ 1 ∷ 0 ∷ [])
    ∷ fields 0x26 (0 ∷ 7 ∷ 0 ∷ 0 ∷ [])
    ∷ refused_by 2 None ∷ refused_by 2 None ∷ refused_by 3 (Some 14) ∷ refused_by 3 (Some 4)
    ∷ refused_by 3 (Some 16) ∷ refused_by 3 (Some 0) ∷ refused_by 3 (Some 23) ∷ [])
unfolding word_answer table between
answers = refl
