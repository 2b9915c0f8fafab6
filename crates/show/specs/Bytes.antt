-- All that a run prints, as the bytes that a program writes. Definitions only.
use Rattle.std.specs.Prelude.{ℕ, List, [], ◌∷◌, ◌++◌, replicate}
use Rattle.cells.specs.Layout.{src_numbers, dst_numbers, register_count}
use Rattle.cells.specs.State.{State, state}
use Rattle.run.specs.Run.{run_of}
use Rattle.lines.specs.Printed.{Printed, printed_text, printed_of}

-- text after text
unfoldable pub bytes_of : List Printed → List ℕ
bytes_of [] = []
bytes_of (p ∷ ps) = printed_text p ++ bytes_of ps

-- four files of zeros, which a program runs a job on
unfoldable pub zeros : State
zeros = state (replicate src_numbers 0) (replicate src_numbers 0) (replicate dst_numbers 0) (replicate register_count 0)

-- the bytes that a program writes of a job
abbrev pub bytes_printed : List ℕ → List ℕ
bytes_printed job = bytes_of (printed_of job (run_of job zeros))
