-- `word::table::find` meets its contract: each arm gives the table's row of its opcode, and past the arms no row has the opcode. Assumes nothing.
-- the row of an arm's opcode, computed in the table
use mathlib.Core.Path.{◌≡◌, sym, ap}
use Prim.Native.Nat.{ℕ}
use Rattle.word.specs.Entries.{found_of}
use Rattle.word.specs.Table.{table, lookup}
use Rattle.word.proofs.Rule.{away}
use Rattle.word.proofs.table.find.Goals as goal

row : {op n : ℕ} → op ≡ n → found_of (lookup table n) ≡ found_of (lookup table op)
row e = sym (ap (λ (op : ℕ). found_of (lookup table op)) e)

pub returns-in-38 : goal.returns-in-38
unfolding table
returns-in-38 c = row c.in-38.is

pub returns-in-41 : goal.returns-in-41
unfolding table
returns-in-41 c = row c.in-41.is

pub returns-in-52 : goal.returns-in-52
unfolding table
returns-in-52 c = row c.in-52.is

pub returns-in-34 : goal.returns-in-34
unfolding table
returns-in-34 c = row c.in-34.is

pub returns-in-35 : goal.returns-in-35
unfolding table
returns-in-35 c = row c.in-35.is

pub returns-in-36 : goal.returns-in-36
unfolding table
returns-in-36 c = row c.in-36.is

pub returns-in-37 : goal.returns-in-37
unfolding table
returns-in-37 c = row c.in-37.is

pub returns-in-49 : goal.returns-in-49
unfolding table
returns-in-49 c = row c.in-49.is

pub returns-in-50 : goal.returns-in-50
unfolding table
returns-in-50 c = row c.in-50.is

pub returns-in-55 : goal.returns-in-55
unfolding table
returns-in-55 c = row c.in-55.is

pub returns-in-56 : goal.returns-in-56
unfolding table
returns-in-56 c = row c.in-56.is

pub returns-in-17 : goal.returns-in-17
unfolding table
returns-in-17 c = row c.in-17.is

pub returns-in-23 : goal.returns-in-23
unfolding table
returns-in-23 c = row c.in-23.is

pub returns-in-24 : goal.returns-in-24
unfolding table
returns-in-24 c = row c.in-24.is

pub returns-in-53 : goal.returns-in-53
unfolding table
returns-in-53 c = row c.in-53.is

pub returns-in-33 : goal.returns-in-33
unfolding table
returns-in-33 c = row c.in-33.is

pub returns-in-70 : goal.returns-in-70
unfolding table
returns-in-70 c = row c.in-70.is

pub returns-in-91 : goal.returns-in-91
unfolding table
returns-in-91 c = row c.in-91.is

pub returns-in-92 : goal.returns-in-92
unfolding table
returns-in-92 c = row c.in-92.is

pub returns-in-93 : goal.returns-in-93
unfolding table
returns-in-93 c = row c.in-93.is

pub returns-in_default : goal.returns-in_default
unfolding table
returns-in_default c = sym (ap found_of (away table c.args.opcode Unit c.in_default.in_default-own.rest).1)
