-- A single step on the numbers of a record, as a caller in C makes it. Definitions only.
use Rattle.std.specs.Prelude.{cond, List, ℕ, ltb}
use Rattle.cells.specs.Layout.{thread_count}
use Rattle.cells.specs.State.{State}
use Rattle.numbers.specs.Lists.{record_over}
use Rattle.numbers.specs.Record.{record_of}
use Rattle.step.specs.Step.{verdict_of, if_done, stepped_of}

-- the thread in a byte: any thread out of range becomes the first of these
abbrev pub thread_byte : ℕ → ℕ
thread_byte t = cond (ltb t thread_count) t thread_count

-- the numbers after a step: those of the record after it; refusing, as they came
unfoldable pub numbers_after : List ℕ → ℕ → ℕ → State → List ℕ
numbers_after l t w s = if_done (verdict_of (record_of l) t w s) (record_over (stepped_of (record_of l) t w s).control l) l
