-- `job::fields::any_field_at` meets its contract: a cut field, or its payload read. Assumes nothing.
use Rattle.job.proofs.Answered.{field_cut, field_whole}
use native.Mathlib.Omega.{arith}
use Rattle.job.proofs.fields.any_field_at.Goals as goal

pub returns-then-n-lt3 : goal.returns-then-n-lt3
returns-then-n-lt3 c = let a = c.args in
    field_cut a.job.now a.at (omega arith)

pub returns-then-n-at : goal.returns-then-n-at
returns-then-n-at c = let a = c.args in
    field_cut a.job.now a.at (omega arith)

pub returns-then-n-b : goal.returns-then-n-b
returns-then-n-b c = let a = c.args in
    field_cut a.job.now a.at (omega arith)

pub returns : goal.returns
returns c = let a = c.args in
    field_whole a.job.now a.at _ _ c.read2-len.ensures.0 (omega arith) c.read_field.ensures
