-- `precheck::marking::unset_given` meets its contract. Assumes nothing.
use Rattle.precheck.proofs.ByClass.{given_kept, given_off}
use Rattle.precheck.proofs.marking.unset_given.Goals as goal

pub returns-then-keep : goal.returns-then-keep
returns-then-keep c = given_kept c.args.b c.args.on c.if-keep.true _

pub returns-else-on : goal.returns-else-on
returns-else-on c = given_off c.args.b c.args.keep c.if-on.false _
