use Rattle.std.proofs.Common.{◌≡◌, ℕ, ◌+◌, ◌≤◌, List, ◌++◌, rules, length, take, drop, sym, ap, ◌∙◌, subst, le_refl, drop_at, length-take-le}
use Rattle.std.proofs.lemmas.Slice.{take-put_mid_below}
use Rattle.std.specs.Io.KnownBytes.{Consumes}
use Rattle.std.proofs.KnownBytes.{Consumes-trans}
use borrow.Rule.Slice.PartMut.{put_mid, post_of}
use lib.Seq.{take-add, take-append-le}
use Rattle.show.proofs.input.read.Goals as goal

-- The front that was filled before, and then n bytes of what a read put at its end, are the front with n bytes more.
front_grows : (at room n : ℕ) (xs ys : List ℕ) → at ≤ length xs → n ≤ length ys
    → take at xs ++ take n ys ≡ take (at + n) (put_mid at room xs ys)
front_grows at room n xs ys within fits =
    let filled = put_mid at room xs ys in
    let same : take at filled ≡ take at xs = take-put_mid_below _ _ _ _ _ (le_refl _) within in
    let part : take n (drop at filled) ≡ take n ys =
    ap (take n) (drop_at (take at xs) (ys ++ post_of at room xs) at (length-take-le at xs within)) ∙ take-append-le n ys (post_of at room xs) fits in
    ap (λ l. l ++ take n ys) (sym same) ∙ ap (λ l. take at filled ++ l) (sym part) ∙ sym (take-add at n filled)

pub loop-done-preserved : goal.loop-done-preserved
loop-done-preserved g c =
    let (within, same, taken) = c.loop-done.invariant in (
      search rules,
      search rules,
      subst (Consumes _ _) (front_grows c.loop-done.done _ c.in-Ok.more c.loop-done.space c.read.new.buf within c.in-Ok.ensures.bound.0)
          (Consumes-trans _ _ _ _ _ taken c.in-Ok.ensures.bytes.0),
    )
