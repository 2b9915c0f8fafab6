-- How many bytes of the space were read. Definitions only.
use Rattle.std.specs.Prelude.{◌≡◌, ◌≤◌, ℕ, List, length, take, Ok, Err}
use Rattle.std.specs.declared.result.Result.{Result}
use Rattle.show.specs.declared.input.Unread.{Unread}

-- n bytes at the front of xs: `&xs[..n]` is in bounds, and is n bytes long
abbrev pub IsPrefixLen : ℕ → List ℕ → Type 0
IsPrefixLen n xs = (n ≤ length xs) × (n ≡ length (take n xs))

-- how many, also where a read failed
abbrev pub read_len : Result ℕ Unread → ℕ
read_len (Ok n) = n
read_len (Err e) = e.len
