-- `job::loads::load_part` meets its contract: before number i all of the stretch is loaded. Assumes nothing.
-- number i stands i places after number 0
use mathlib.Core.Path.{◌≡◌, ap, ◌∙◌}
use mathlib.Core.List.{List}
use Prim.Native.Nat.{ℕ, ◌+◌, ◌-◌, ◌*◌, ◌<◌, ◌≤◌}
use native.Mathlib.Omega.{arith}
use lib.ListN.{length}
use Rattle.cells.specs.declared.Part.{Part}
use Rattle.cells.specs.declared.Part.TheVariants.{Whole, Low, High}
use Rattle.cells.specs.Parts.{place_in}
use Rattle.cells.proofs.Parts.{Going, going_start, going_length, first_inside, going_inside, going_place, going_before, going_on, going_end}
use Rattle.job.specs.Kinds.{row_value}
use Rattle.job.proofs.loads.load_part.Goals as goal

from-base : (a : Part) (n i b : ℕ) → b ≡ place_in a n 0 → b + i ≡ place_in a n i
from-base Whole n i b e = omega arith
from-base Low n i b e = omega arith
from-base High n i b e = omega arith

-- the number that the loop has come to stands in the stretch, and what goes there inside the payload, of m bytes
inside : (a : Part) (f : ℕ → ℕ) (d₀ : List ℕ) (lo hi from to : ℕ) (d : List ℕ) (i b m : ℕ) → Going a f d₀ lo hi from to d i → i < to → b ≡ place_in a (length d₀) 0
    → 4 * (hi - lo) ≤ m - 3 → (lo ≤ b + i) × (b + i < hi) × (3 + 4 * (b + i - lo) + 4 ≤ m)
inside a f d₀ lo hi from to d i b m g h e room =
    let at = from-base a (length d₀) i b e in
    let low = going_place a f d₀ lo hi from to d i g h in
    let high = going_before a f d₀ lo hi from to d i g h in
    (omega arith, omega arith, omega arith)

pub loop-i-init : goal.loop-i-init
loop-i-init c = going_start _ _ _ _ _ _ _ c.requires.0 c.cut_in-start.ensures c.cut_in-end.ensures

pub overflow_add-base : goal.overflow_add-base
overflow_add-base c = omega (arith, (inside _ _ _ _ _ _ _ _ _ _ _ c.loop-i.invariant c.loop-i-test.true c.requires.1 c.requires.2).1)

pub overflow_sub-base : goal.overflow_sub-base
overflow_sub-base c = omega (arith, (inside _ _ _ _ _ _ _ _ _ _ _ c.loop-i.invariant c.loop-i-test.true c.requires.1 c.requires.2).0)

pub overflow_mul-base : goal.overflow_mul-base
overflow_mul-base c = omega (arith, (inside _ _ _ _ _ _ _ _ _ _ _ c.loop-i.invariant c.loop-i-test.true c.requires.1 c.requires.2).2)

pub overflow_add-base-in-loop-i : goal.overflow_add-base-in-loop-i
overflow_add-base-in-loop-i c = omega (arith, (inside _ _ _ _ _ _ _ _ _ _ _ c.loop-i.invariant c.loop-i-test.true c.requires.1 c.requires.2).2)

pub read4-v-requires : goal.read4-v-requires
read4-v-requires c = (inside _ _ _ _ _ _ _ _ _ _ _ c.loop-i.invariant c.loop-i-test.true c.requires.1 c.requires.2).2

pub offset_bounds-file-i : goal.offset_bounds-file-i
offset_bounds-file-i c = omega (arith, first_inside _ _ _ _ _ _ _ _ _ c.loop-i.invariant c.loop-i-test.true)

pub bounds-file-i : goal.bounds-file-i
bounds-file-i c = going_inside _ _ _ _ _ _ _ _ _ c.loop-i.invariant c.loop-i-test.true

pub offset_bounds-file-i-in-loop-i : goal.offset_bounds-file-i-in-loop-i
offset_bounds-file-i-in-loop-i c = omega (arith, first_inside _ _ _ _ _ _ _ _ _ c.loop-i.invariant c.loop-i-test.true)

pub bounds-file-i-in-loop-i : goal.bounds-file-i-in-loop-i
bounds-file-i-in-loop-i c = going_inside _ _ _ _ _ _ _ _ _ c.loop-i.invariant c.loop-i-test.true

pub loop-i-preserved : goal.loop-i-preserved
loop-i-preserved c = let l = c.loop-i in
    going_on _ _ _ _ _ _ _ _ _ l.invariant _ _ c.loop-i-test.true (c.read4-v.ensures ∙ ap (λ (p : ℕ). row_value c.args.payload.now (p - c.args.lo)) (from-base c.args.part (length c.args.file.now) l.i c.args.base c.requires.1)) c.with_part.ensures

pub shape_of-file : goal.shape_of-file
shape_of-file c = going_length _ _ _ _ _ _ _ _ _ c.loop-i.invariant

pub returns : goal.returns
returns c = going_end _ _ _ _ _ _ _ _ _ c.loop-i.invariant c.loop-i-test.false
