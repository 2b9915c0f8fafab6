-- Sums that wrap. Assumes nothing.
use mathlib.Core.Path.{◌≡◌}
use mathlib.Core.Bool.{true}
use Prim.Native.Nat.{ℕ, ◌+◌, ◌%◌, ◌<◌}
use native.Mathlib.Nat.{mod-lt}
use native.Mathlib.Omega.{arith}
use lib.Dec.{ltb}
use borrow.Author.Tests.{lt-ltb}
use Rattle.control.specs.Counter.{add10, add6, fits10, fits6}
use Rattle.control.specs.declared.Counter10.{Counter10}
use Rattle.control.specs.declared.Counter6.{Counter6}

-- what wraps is in range
pub wraps : (m : ℕ) → 0 < m → (n : ℕ) → ltb (n % m) m ≡ true
wraps m h n = lt-ltb (n % m) m (mod-lt n h)

pub mod6 : (n : ℕ) → ltb (n % 64) 64 ≡ true
mod6 = wraps 64 (omega arith)

pub mod10 : (n : ℕ) → ltb (n % 1024) 1024 ≡ true
mod10 = wraps 1024 (omega arith)

-- so is a sum of two counters
pub sum6 : (x y : Counter6) → fits6 (add6 x y) ≡ true
sum6 x y = mod6 (x.0 + y.0)

pub sum10 : (x y : Counter10) → fits10 (add10 x y) ≡ true
sum10 x y = mod10 (x.0 + y.0)
