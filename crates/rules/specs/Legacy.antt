-- CONV3S1, CONV3S2, MPOOL3S1, APOOL3S1, MPOOL3S2, APOOL3S2: document 01, "The six legacy instructions"; document 02, order 3. Definitions only.
use Rattle.word.specs.declared.Legacy.{Legacy}
use Rattle.rules.specs.Vocabulary.{Both, SlotAndLast, Meaning, quiet, ◌·◌, needing, clearing, moving}

-- they need both banks; then comes clear, then the slot, and the last SrcA row becomes SrcA counter & 0x30, as before the slot acts; nothing else
abbrev pub legacy_meaning : Legacy → Meaning
legacy_meaning l = quiet · needing Both · clearing l.clear · moving (SlotAndLast l.slot)
