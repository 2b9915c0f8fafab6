-- `rules::multiply::is_modelled` meets its contract: the two modes in one test. Assumes nothing.
-- Fp32, INT8, FP16A force, format 2, format 6
use mathlib.Core.Path.{◌≡◌, refl}
use mathlib.Core.Bool.{Bool, true, false, not, ◌&&◌, ◌||◌}
use lib.Dec.{eqb}
use Rattle.rules.proofs.multiply.is_modelled.Goals as goal

both-modes : (f i h two six : Bool) → ((not i && not h) && (two || (f && six))) ≡ ((((f && not i) && not h) && (two || six)) || (((not f && not i) && not h) && two))
both-modes true true h two six = refl
both-modes false true h two six = refl
both-modes true false true two six = refl
both-modes false false true two six = refl
both-modes true false false true six = refl
both-modes true false false false true = refl
both-modes true false false false false = refl
both-modes false false false true six = refl
both-modes false false false false six = refl

pub returns : goal.returns
returns c = let s = c.args.s in
    both-modes s.fp32 s.int8 s.fp16a (eqb s.format 2) (eqb s.format 6)
