-- `job::loads::load_rows` meets its contract. Assumes nothing.
use Rattle.job.proofs.Loading.{loaded_inside, loaded_past}
use lib.ListN.{length}
use Prim.Native.Nat.{◌+◌, ◌-◌, ◌*◌, ◌/◌, ◌≤◌}
use native.Mathlib.Omega.{arith}
use Rattle.job.proofs.loads.load_rows.Goals as goal

pub load_places-requires : goal.load_places-requires
load_places-requires c = let a = c.args in
    let lo = (a.base + a.rows.first) * 16 in
    let inside : 4 * (lo + a.rows.count * 16 - lo) ≤ length a.payload.now - 3 = omega (arith, c.bytes_left-whole.ensures, c.if-hi-lo.true) in
    (omega arith, inside)

pub returns-then-hi-lo : goal.returns-then-hi-lo
returns-then-hi-lo c = let a = c.args in loaded_inside a.width a.payload.now (a.base + a.rows.first) a.rows.count a.file.now _ c.load_places.ensures

pub load_places-requires-2 : goal.load_places-requires-2
load_places-requires-2 c = let a = c.args in
    let b = c.bytes_left-whole in
    let lo = (a.base + a.rows.first) * 16 in
    let inside : 4 * (lo + b.result / 4 - lo) ≤ length a.payload.now - 3 = omega (arith, b.ensures) in
    (omega arith, inside)

pub returns : goal.returns
returns c = let a = c.args in
    let b = c.bytes_left-whole in
    loaded_past a.width a.payload.now (a.base + a.rows.first) a.rows.count a.file.now (b.result / 4) _ _ _ _ (omega (arith, b.ensures)) (omega (arith, c.if-hi-lo.false)) c.number_at.ensures c.load_places-2.ensures c.fill_places.ensures c.fill_places-2.ensures
