-- `word::decode::operands_of` meets its contract. Assumes nothing.
use Rattle.word.proofs.decode.operands_of.Goals as goal

pub returns-in-Multiply : goal.returns-in-Multiply
returns-in-Multiply c = simp c.in-Multiply.is

pub returns-in-Legacy : goal.returns-in-Legacy
returns-in-Legacy c = simp c.in-Legacy.is

pub returns-in-SetCounters : goal.returns-in-SetCounters
returns-in-SetCounters c = simp c.in-SetCounters.is

pub returns-in-AddCounters : goal.returns-in-AddCounters
returns-in-AddCounters c = simp c.in-AddCounters.is

pub returns-in-ZeroSrc : goal.returns-in-ZeroSrc
returns-in-ZeroSrc c = simp c.in-ZeroSrc.is

pub returns-in-ShiftA : goal.returns-in-ShiftA
returns-in-ShiftA c = simp c.in-ShiftA.is

pub returns-in-ShiftB : goal.returns-in-ShiftB
returns-in-ShiftB c = simp c.in-ShiftB.is

pub returns-in-Scalar : goal.returns-in-Scalar
returns-in-Scalar c = simp c.in-Scalar.is
