-- `job::stages::find_shape` meets its contract: the shape of the fields that are left, from the stage that the loop has come to, is the job's. Assumes nothing.
use mathlib.Core.Path.{◌≡◌}
use Rattle.job.specs.Fields.{fields_from}
use Rattle.job.specs.Shape.{shape_from}
use Rattle.job.specs.declared.stages.Stage.TheVariants.{Opening}
use Rattle.job.proofs.stages.find_shape.Given as goal

abbrev pub invariant-loop-f : goal.invariant-loop-f
invariant-loop-f l = record { same : shape_from l.n (fields_from l.f-iterator.job.now l.f-iterator.at) l.stage ≡ shape_from l.n (fields_from l.job 0) Opening }
