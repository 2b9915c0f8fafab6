-- `product::slices` meets its contract: where all numbers are ordinary the first reading made their slices, and else the second. Assumes nothing.
use mathlib.Core.Path.{◌∙◌}
use Rattle.product.proofs.Sliced.{made}
use Rattle.product.proofs.slices.Goals as goal

pub returns-then-not-all : goal.returns-then-not-all
returns-then-not-all c = let a = c.args in
    made a.by.file a.by.format a.by.phase a.src.now a.first c.each_slice.new.out a.out.now (c.each_slice.auto.out ∙ c.each_slice-all.auto.out) (λ p h. (c.each_slice.ensures p h).1.1)

pub returns-else-not-all : goal.returns-else-not-all
returns-else-not-all c = let a = c.args in
    made a.by.file a.by.format a.by.phase a.src.now a.first c.each_slice-all.new.out a.out.now c.each_slice-all.auto.out (λ p h. let e = c.each_slice-all.ensures p h in e.1 (e.2 c.if-not-all.false))
