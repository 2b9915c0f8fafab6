-- `word::reader::read_word` meets its contract. Assumes nothing.
use Rattle.std.specs.Prelude.{Result, Ok, Err}
use mathlib.Core.Path.{◌≡◌, sym, ap, ◌∙◌}
use Prim.Native.Nat.{ℕ}
use Rattle.word.specs.Word.{read_word}
use Rattle.word.specs.Fields.{read_answer, word_answer}
use Rattle.word.specs.declared.Refusal.TheVariants.{UnknownOpcode, UnnamedBit}
use Rattle.word.proofs.ReadWords.{read_none, read_at}
use Rattle.word.proofs.FieldNumbers.{read_answer_lem}
use Rattle.word.proofs.reader.read_word.Goals as goal
use Rattle.word.specs.declared.Operands.{Operands}
use Rattle.word.specs.declared.Refusal.{Refusal}

-- the numbers go by the answer
numbered : (w : ℕ) {r : Result Operands Refusal} → r ≡ read_word w → read_answer r ≡ word_answer w
numbered w e = ap read_answer e ∙ read_answer_lem w

pub returns-in_default : goal.returns-in_default
returns-in_default c =
    let w = c.args.w in
    let e : Err UnknownOpcode ≡ read_word w = sym (read_none w (sym c.find.ensures ∙ c.in_default.is)) in
    record { operands = e; numbers = numbered w e }

pub returns-then-allows : goal.returns-then-allows
returns-then-allows c =
    let e : Ok c.operands_of.result ≡ read_word c.args.w =
    simp (read_at _ _ (sym c.find.ensures ∙ c.in-Some.is), ← c.allows.ensures, c.if-allows.true, c.operands_of.ensures) in
    record { operands = e; numbers = numbered _ e }

pub returns : goal.returns
returns c =
    let e : Err (UnnamedBit c.lowest_stray.result) ≡ read_word c.args.w =
    simp (read_at _ _ (sym c.find.ensures ∙ c.in-Some.is), ← c.allows.ensures, c.if-allows.false, c.lowest_stray.ensures) in
    record { operands = e; numbers = numbered _ e }
