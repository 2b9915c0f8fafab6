-- `precheck::classes::check_zero` meets its contract: what it fills is set. Assumes nothing.
use mathlib.Core.Path.{refl, ap, ◌∙◌}
use Rattle.rules.specs.Access.{reads_of, sets_of, unsets_of}
use Rattle.rules.specs.Rules.{operand_rules, lowest}
use Rattle.precheck.specs.Instruction.{marks_after}
use Rattle.precheck.specs.Marks.{marks}
use Rattle.precheck.proofs.ByClass.{nothing_set, rows_marked}
use Rattle.precheck.proofs.Judged.{nothing_read}
use Rattle.control.specs.Halves.{joined}
use Rattle.rules.specs.ZeroSrc.{filled_a, filled_b}
use Rattle.precheck.proofs.classes.check_zero.Goals as goal

pub returns : goal.returns
unfolding joined filled_a filled_b operand_rules lowest reads_of sets_of unsets_of marks_after
returns c = let args = c.args in
    λ s t d r. let m = marks args.srca.now args.srcb.now d r in
    nothing_read _ m _ _ refl (nothing_set m) (rows_marked m _ _ (c.filled_if.ensures ∙ ap (filled_a (joined args.k s)) c.fields-z.ensures) (c.filled_if-2.ensures ∙ ap (filled_b (joined args.k s)) c.fields-z.ensures) c.mark_span.ensures c.mark_span-2.ensures)
