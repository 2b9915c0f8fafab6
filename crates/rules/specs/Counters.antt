-- SETRWC, INCRWC: document 01, "What each does". Definitions only.
use Rattle.std.specs.Prelude.{leb}
use Rattle.word.specs.declared.SetCounters.{SetCounters}
use Rattle.word.specs.declared.AddCounters.{AddCounters}
use Rattle.rules.specs.Vocabulary.{Set, Add, Meaning, quiet, ◌·◌, undefined_if, clearing, moving}

-- SETRWC clears without needing a bank, and sets counter and carry of each chosen one; its mode must be 0
abbrev pub set_counters_meaning : SetCounters → Meaning
set_counters_meaning s = quiet · undefined_if (leb 1 s.mode) · clearing s.clear · moving (Set s)

-- INCRWC adds to counters only; its mode must be 0
abbrev pub add_counters_meaning : AddCounters → Meaning
add_counters_meaning s = quiet · undefined_if (leb 1 s.mode) · moving (Add s)
