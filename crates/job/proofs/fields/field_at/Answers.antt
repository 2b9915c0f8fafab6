-- `job::fields::field_at` meets its contract: at once by the reader of its tag, or by that of any field. Assumes nothing.
use lib.ListN.{get_or}
use lib.Dec.{eqb, ltb}
use mathlib.Core.Bool.{◌&&◌}
use mathlib.Core.Path.{sym, ◌∙◌}
use native.Mathlib.Omega.{arith}
use Rattle.job.specs.Kinds.{read_kind}
use Rattle.job.proofs.Answered.{field_tagged, field_answered}
use Rattle.cells.specs.Layout.{thread_registers}
use Rattle.cells.proofs.Cells.{both}
use borrow.Author.Tests.{eqb-true}
use Rattle.job.proofs.fields.field_at.Goals as goal

pub returns-then-tag-len : goal.returns-then-tag-len
unfolding read_kind
returns-then-tag-len c = let a = c.args in
    let job = a.job.now in
    let head = both (eqb (get_or job a.at 0) 5) (eqb c.read2-len.result 5) c.if-tag-len.true in
    field_answered _ _ _ (field_tagged job a.at 5 5 _ (eqb-true _ _ head.0) (sym (eqb-true _ _ head.1) ∙ c.read2-len.ensures.0) (omega arith) c.read_issue.ensures)

pub returns-then-tag-len-2 : goal.returns-then-tag-len-2
unfolding read_kind
returns-then-tag-len-2 c = let a = c.args in
    let job = a.job.now in
    let tag = eqb (get_or job a.at 0) 3 in
    let len = eqb c.read2-len.result 6 in
    let head = both tag len (both (tag && len) (ltb c.from.result thread_registers) c.if-tag-len-2.true).0 in
    field_answered _ _ _ (field_tagged job a.at 3 6 _ (eqb-true _ _ head.0) (sym (eqb-true _ _ head.1) ∙ c.read2-len.ensures.0) (omega arith) c.read_load_register.ensures)

pub returns : goal.returns
returns c = field_answered _ _ _ c.any_field_at-f.ensures
