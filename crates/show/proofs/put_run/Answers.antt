use Rattle.std.proofs.Common.{rules, refl, [], ◌++◌, ap, ◌∙◌, subst}
use Rattle.std.proofs.KnownBytes.{Appends-nil, Appends-trans}
use Rattle.std.specs.Io.KnownBytes.{Appends}
use Rattle.lines.specs.Text.{bytes_in}
use Rattle.lines.specs.Left.{texts_left}
use Rattle.show.proofs.Written.{joined, joined_texts, one_more, none_left}
use Rattle.show.proofs.put_run.Goals as goal

pub loop-text-init : goal.loop-text-init
loop-text-init g c = ([], Appends-nil _, refl)

pub loop-text-preserved : goal.loop-text-preserved
loop-text-preserved g c =
    let (done, appended, whole) = c.loop-text.invariant in (
      done ++ bytes_in c.in-Some.text,
      Appends-trans _ _ _ _ _ appended (search rules),
      one_more done _ _ whole _ _ c.in-Some.ensures.steps,
    )

pub returns : goal.returns
returns g c a b =
    let (done, appended, whole) = c.loop-text.invariant in
    subst (Appends _ _)
    (none_left done _ _ whole c.in-None.ensures.steps.0
    ∙ ap (λ t. joined (texts_left t)) c.into_iter-text-iterator.ensures.into_iter_gives
    ∙ ap joined (c.new-text-items.ensures a b)
    ∙ joined_texts _)
    appended
