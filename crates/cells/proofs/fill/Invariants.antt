-- `cells::fill` meets its contract: before number x all of the stretch is filled. Assumes nothing.
use mathlib.Core.Path.{◌≡◌}
use Prim.Native.Nat.{◌+◌}
use Rattle.cells.proofs.Parts.{gone, around}
use Rattle.cells.proofs.fill.Given as goal

abbrev pub invariant-loop-x : goal.invariant-loop-x
invariant-loop-x l = around l.fn.file l.from l.to l.x-items ≡ gone l.part (λ _. l.value) l.fn.file l.from (l.from + l.x-index)
