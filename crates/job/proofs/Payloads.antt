-- The payload of a field that the job's end cuts off. Assumes nothing.
use mathlib.Core.Path.{◌≡◌, sym, ap, ◌∙◌}
use mathlib.Core.List.{List}
use Prim.Native.Nat.{ℕ, ◌+◌, ◌-◌, ◌≤◌}
use native.Mathlib.Omega.{arith}
use lib.ListN.{length, take, drop, length-drop, drop_of_length-le}
use lib.Seq.{take_all, take-nil, drop-length}
use Rattle.job.specs.Bytes.{le2}
use Rattle.job.specs.Fields.{end_at, payload_at}

module _ (job : List ℕ) (at : ℕ) where
  -- in its header, at most: nothing is left
  pub payload_none : length job ≤ at + 3 → take (length job - length job) (drop (length job) job) ≡ payload_at job at
  payload_none h =
      ap (take (length job - length job)) (drop-length job) ∙ take-nil (length job - length job)
      ∙ sym (ap (take (le2 job (at + 1))) (drop_of_length-le job h) ∙ take-nil (le2 job (at + 1)))

  -- after it: all that is left
  pub payload_cut : length job ≤ end_at job at → take (length job - (at + 3)) (drop (at + 3) job) ≡ payload_at job at
  payload_cut h =
      let rest = drop (at + 3) job in
      let n : length rest ≡ length job - (at + 3) = length-drop (at + 3) job in
      take_all (length job - (at + 3)) rest (omega arith) ∙ sym (take_all (le2 job (at + 1)) rest (omega arith))
