-- No public function that answers a refusal gives number 10. Assumes nothing.
use mathlib.Core.Path.{◌≡◌, refl, sym, ap, ◌∙◌}
use mathlib.Core.Bool.{Bool, true, false, cond, not, false≢true}
use mathlib.Core.List.{List, [], ◌∷◌, map}
use mathlib.Core.Logic.{◌≢◌}
use Prim.Native.Nat.{ℕ, zero, suc}
use native.Mathlib.Omega.{arith}
use borrow.Author.Tests.{eq-eqb, not-true}
use lib.Dec.{eqb}
use lib.ListN.{get_or}
use Rattle.std.specs.Prelude.{Result, Ok, Err, ⊤, Option, None, Some}
use Rattle.cells.specs.State.{State}
use Rattle.cells.proofs.Cells.{split}
use Rattle.cells.proofs.Tests.{each_of}
use Rattle.word.specs.Table.{Row}
use Rattle.word.specs.Word.{row_of, stray_in}
use Rattle.word.specs.Fields.{WordAnswer, fields, refused_by, answer_in, word_answer}
use Rattle.word.specs.Refusal.{number_of, table_numbers, bit_of, Answer, done, passed, finished, refused, answer_of}
use Rattle.word.specs.declared.Refusal.{Refusal}
use Rattle.word.proofs.Numbers.{tabled, tabled_not_ten, one_has}
use Rattle.rules.specs.Rules.{Judged, verdict_answer, lowest_answer, unread_answer}
use Rattle.step.specs.Step.{stepped_of, step_answer}
use Rattle.job.specs.declared.Cause.{Cause}
use Rattle.job.specs.Fields.{payload_at, field_at}
use Rattle.job.specs.Shape.{shape_of}
use Rattle.job.specs.Answers.{FieldAnswer, carries, answers, standing, shape_numbers}
use Rattle.job.specs.declared.Kind.{Kind}
use Rattle.job.specs.declared.Kind.TheVariants as kind
use Rattle.job.specs.declared.WrongAt.{WrongAt}
use Rattle.precheck.specs.Check.{precheck_answer}
use Rattle.run.specs.Run.{run_answer}
use Rattle.run.proofs.SmallAnswers.{Small, precheck_small, run_small}
use Rattle.lines.specs.Lines.{Line, row, value, lines_of}
use Rattle.lines.specs.Text.{decimal, decimal_up_to, text_of, finished_text, passed_text, refused_text}
use Rattle.lines.specs.Printed.{line, printed_by, printed_text, checked_text}
use Rattle.lines.specs.Cursor.{printed_from, lines_at}
use Rattle.lines.specs.declared.Cursor.{Cursor}
use Rattle.demand.specs.Numbers.{NotTen, NotTenText, NoTen}
use Rattle.word.specs.declared.Refused.{Refused}
use Rattle.word.specs.declared.Operands.{Operands}

-- ---- in numbers

-- the number of a refusal, 0 of any other answer
number_in : Answer → ℕ
number_in done = 0
number_in (passed n) = 0
number_in (finished n) = 0
number_in (refused number place bit) = number

other : (x : Answer) → number_in x ≢ 10 → NotTen x
unfolding number_in
other x h place bit e = h (ap number_in e)

answer_other : (r : Refusal) (p : ℕ) → NotTen (answer_of r p)
unfolding number_in
answer_other r p = other (answer_of r p) (tabled_not_ten (number_of r) (tabled r))

verdict_other : (v : Result ⊤ Refusal) → NotTen (verdict_answer v)
unfolding number_in
verdict_other (Ok u) = other done (λ e. omega arith)
verdict_other (Err r) = answer_other r 0

judges_other : (l : List Judged) → NotTen (lowest_answer l)
unfolding lowest_answer number_in
judges_other [] = other done (λ e. omega arith)
judges_other (b ∷ l) = split b.broken (λ t. rw t (answer_other b.rule 0)) (λ t. rw t (judges_other l))

unread_other : (r : Result Operands Refusal) → NotTen (unread_answer r)
unfolding number_in
unread_other (Ok f) = other done (λ e. omega arith)
unread_other (Err r) = answer_other r 0

shape_other : (x : Result ⊤ WrongAt) → NotTen (shape_numbers x)
unfolding number_in
shape_other (Ok x) = other done (λ e. omega arith)
shape_other (Err wrong) = other _ (λ e. omega arith)

-- the answer of a pre-check or a run, which is small
small_other : (x : Answer) → Small x → NotTen x
unfolding number_in
small_other done s = absurd s
small_other (passed n) s = other (passed n) (λ e. omega arith)
small_other (finished n) s = other (finished n) (λ e. omega arith)
small_other (refused number place bit) s = other (refused number place bit) (tabled_not_ten number s.0)

-- a field, and a word
field_other : (k : Result Kind Cause) (at tag : ℕ) (p : List ℕ) (place : ℕ) (bit : Option ℕ) → standing k at tag p ≢ answers (refused 10 place bit)
field_other k at tag p place bit e = go k (ap number e)
  where
    number : FieldAnswer → ℕ
    number (carries t l) = 0
    number (answers (refused n q b)) = n
    number (answers done) = 0
    number (answers (passed n)) = 0
    number (answers (finished n)) = 0

    go : (k : Result Kind Cause) → number (standing k at tag p) ≢ 10
    go (Ok kind.Settings) h = omega arith
    go (Ok (kind.Issue t w)) h = omega arith
    go (Ok (kind.HandOver file)) h = omega arith
    go (Ok (kind.Writes x)) h = omega arith
    go (Ok (kind.Prints o)) h = omega arith
    go (Err c) h = omega arith

word_other : (w : ℕ) (bit : Option ℕ) → word_answer w ≢ refused_by 10 bit
unfolding word_answer
word_other w bit e = go (row_of w) (ap number e)
  where
    number : WordAnswer → ℕ
    number (fields opcode l) = 0
    number (refused_by n b) = n

    by_bit : (b : Bool) (x : Option ℕ) (opcode : ℕ) (l : List ℕ) → number (cond b (refused_by 3 x) (fields opcode l)) ≢ 10
    by_bit true x opcode l h = omega arith
    by_bit false x opcode l h = omega arith

    go : (o : Option Row) → number (answer_in o w) ≢ 10
    go None h = omega arith
    go (Some r) h = by_bit (stray_in (Some r) w) _ _ _ h

-- ---- as texts

-- the first byte of a refusal is an `r`, and the tenth of `refused 10` a `0`, which no other number of the table has there
first : (place : ℕ) (bit : Option ℕ) → get_or (refused_text 10 place bit) 0 0 ≡ 114
unfolding refused_text
first place bit = refl

tenth : (place : ℕ) (bit : Option ℕ) → get_or (refused_text 10 place bit) 9 0 ≡ 48
unfolding refused_text decimal decimal_up_to
tenth place bit = refl

by_first : (x : List ℕ) → get_or x 0 0 ≢ 114 → NotTenText x
by_first x h place bit e = h (ap (λ (l : List ℕ). get_or l 0 0) e ∙ first place bit)

refused_other : (r : Refusal) (p : ℕ) (b : Option ℕ) → NotTenText (refused_text (number_of r) p b)
unfolding refused_text decimal decimal_up_to
refused_other r p b place bit e =
    let other : eqb (get_or (refused_text (number_of r) p b) 9 0) 48 ≡ false =
    not-true _ (one_has (λ n. not (eqb (get_or (refused_text n p b) 9 0) 48)) table_numbers (each_of (map (λ (n : ℕ). not (eqb (get_or (refused_text n p b) 9 0) 48)) table_numbers) refl) (number_of r) (tabled r)) in
    let zero : get_or (refused_text (number_of r) p b) 9 0 ≡ 48 = ap (λ (l : List ℕ). get_or l 9 0) e ∙ tenth place bit in
    false≢true (sym other ∙ eq-eqb _ 48 zero)

line_other : (l : Line) → NotTenText (text_of l)
unfolding text_of
line_other (row w r vs) = by_first _ (λ e. omega arith)
line_other (value t r v) = by_first _ (λ e. omega arith)

lines_other : (ls : List Line) (k : ℕ) → NotTenText (get_or (map printed_text (map line ls)) k [])
unfolding printed_text
lines_other [] k = by_first [] (λ e. omega arith)
lines_other (l ∷ ls) zero = line_other l
lines_other (l ∷ ls) (suc k) = lines_other ls k

printed_other : (job : List ℕ) (o : Result ℕ Refused) (s : State) (k : ℕ) → NotTenText (get_or (map printed_text (printed_by job o s)) k [])
unfolding printed_by printed_text finished_text
printed_other job (Ok n) s zero = by_first _ (λ e. omega arith)
printed_other job (Ok n) s (suc k) = lines_other (lines_of job s) k
printed_other job (Err x) s zero = refused_other x.refusal x.place (bit_of x.refusal)
printed_other job (Err x) s (suc k) = by_first [] (λ e. omega arith)

-- from any cursor on
texts_other : (job : List ℕ) (o : Result ℕ Refused) (c : Cursor) (s : State) (k : ℕ) → NotTenText (get_or (map printed_text (printed_from job o c s)) k [])
unfolding printed_from lines_at
texts_other job (Ok n) c s k = split c.answered (λ t. rw t (lines_other (lines_at job c s) k)) (λ t. rw t (printed_other job (Ok n) s k))
texts_other job (Err x) c s k = split c.answered (λ t. rw t (by_first [] (λ e. omega arith))) (λ t. rw t (printed_other job (Err x) s k))

checked_text_other : (x : Result ℕ Refused) → NotTenText (checked_text x)
unfolding checked_text passed_text
checked_text_other (Ok n) = by_first _ (λ e. omega arith)
checked_text_other (Err x) = refused_other x.refusal x.place (bit_of x.refusal)

pub no_ten : NoTen
unfolding step_answer
no_ten =
    record {
      values = λ i. refl;
      tabled = tabled;
      refusal = λ r. tabled_not_ten (number_of r) (tabled r);
      word = word_other;
      judges = judges_other;
      unread = unread_other;
      step = λ c t w s. verdict_other (stepped_of c t w s).verdict;
      field = λ job at. field_other (field_at job at).kind at (get_or job at 0) (payload_at job at);
      shape = λ job. shape_other (shape_of job);
      precheck = λ job. small_other (precheck_answer job) (precheck_small job);
      run = λ job s. small_other (run_answer job s) (run_small job s);
      texts = texts_other;
      checked = checked_text_other;
    }
