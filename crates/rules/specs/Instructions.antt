-- Document 01, "What each does": every instruction once, in the paper's order. Definitions only.
use Rattle.word.specs.Operands.{multiply_of, legacy_of, set_counters_of, add_counters_of, zero_src_of, shift_a_of, shift_b_of, scalar_of}
use Rattle.word.specs.declared.Operands.{Operands}
use Rattle.word.specs.declared.Operands.TheVariants as operands
use Rattle.rules.specs.Vocabulary.{Meaning, quiet}
use Rattle.rules.specs.Multiply.{multiply_meaning}
use Rattle.rules.specs.Legacy.{legacy_meaning}
use Rattle.rules.specs.Counters.{set_counters_meaning, add_counters_meaning}
use Rattle.rules.specs.ZeroSrc.{zero_src_meaning}
use Rattle.rules.specs.Shifts.{shift_a_meaning, shift_b_meaning}
use Rattle.rules.specs.Scalar.{scalar_meaning}

-- what an instruction means, by its class and the fields of its word; GATESRCRST, CLREXPHIST and FLUSHDMA change nothing
abbrev pub meaning_of : Operands → Meaning
meaning_of (operands.Multiply w) = multiply_meaning (multiply_of w)
meaning_of (operands.Legacy w) = legacy_meaning (legacy_of w)
meaning_of (operands.SetCounters w) = set_counters_meaning (set_counters_of w)
meaning_of (operands.AddCounters w) = add_counters_meaning (add_counters_of w)
meaning_of (operands.ZeroSrc w) = zero_src_meaning (zero_src_of w)
meaning_of (operands.ShiftA w) = shift_a_meaning (shift_a_of w)
meaning_of (operands.ShiftB w) = shift_b_meaning (shift_b_of w)
meaning_of (operands.Scalar w) = scalar_meaning (scalar_of w)
meaning_of operands.NoEffect = quiet
