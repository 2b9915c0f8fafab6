-- The columns from here on, written, give the whole row.
use Rattle.lines.specs.Text.{wrote, values}
use Rattle.lines.specs.Lines.{columns}
use Rattle.cells.specs.Places.{digits_of}
use Prim.Native.Nat.{◌-◌}
use mathlib.Core.Path.{◌≡◌}
use Rattle.lines.proofs.Text.push_row.Given as goal

abbrev pub invariant-loop-k : goal.invariant-loop-k
invariant-loop-k l = wrote l.self (values l.digits (columns l.width l.dst l.row l.k (16 - l.k))) ≡ wrote l.initial.self (values (digits_of l.width) (columns l.width l.dst l.row 0 16))
