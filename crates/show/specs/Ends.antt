-- How a program ended, and the exit status that says so. Definitions only.
use Rattle.std.specs.Prelude.{ℕ, Ok, Err, Result, ⊤}
use Rattle.show.specs.declared.end.End.{End}
use Rattle.show.specs.declared.end.End.TheVariants as end
use Rattle.word.specs.declared.Refused.{Refused}

-- by the answer of a run or of a pre-check
abbrev pub answer_end : Result ℕ Refused → End
answer_end (Ok count) = end.Done
answer_end (Err x) = end.Refused

-- what the caller was not told in full is neither done nor refused
abbrev pub told_end : {E : Type 0} → End → Result ⊤ E → End
told_end x (Ok u) = x
told_end x (Err e) = end.Unwritten

-- the exit status; 2, a wrong call, is not a program's to give
abbrev pub status_of : End → ℕ
status_of end.Done = 0
status_of end.Refused = 1
status_of end.Unread = 3
status_of end.Unwritten = 3
