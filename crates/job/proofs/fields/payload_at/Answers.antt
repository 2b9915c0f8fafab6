-- `job::fields::payload_at` meets its contract. Assumes nothing.
use native.Mathlib.Nat.{add-sub_cancel_left}
use native.Mathlib.Omega.{arith}
use Rattle.job.proofs.Payloads.{payload_none, payload_cut}
use Rattle.job.proofs.fields.payload_at.Goals as goal

pub returns-then-n-lt3 : goal.returns-then-n-lt3
returns-then-n-lt3 c = let a = c.args in payload_none a.job.now a.at (omega arith)

pub returns-then-n-at : goal.returns-then-n-at
returns-then-n-at c = let a = c.args in payload_none a.job.now a.at (omega arith)

pub returns-then-n-b : goal.returns-then-n-b
returns-then-n-b c = let a = c.args in payload_cut a.job.now a.at (omega (arith, c.read2-len.ensures.0))

pub returns : goal.returns
returns c = simp (c.read2-len.ensures.0, add-sub_cancel_left)
