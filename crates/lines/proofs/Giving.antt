-- The texts of a run, one at a time, are all that it prints, each once, in order. Assumes nothing.
use Rattle.job.specs.declared.Cause.{Cause}
use mathlib.Core.Path.{◌≡◌, refl, sym, ap, ◌∙◌}
use mathlib.Core.Bool.{Bool, true, false, cond}
use mathlib.Core.List.{List, [], ◌∷◌, map}
use Rattle.std.specs.Prelude.{None, Some, Result, Ok, Err, Option}
use Rattle.std.specs.declared.option.Option.{Option}
use Prim.Native.Nat.{ℕ, zero, suc, ◌≤◌, ◌<◌}
use native.Mathlib.Omega.{arith}
use lib.Dec.{ltb}
use lib.ListN.{length}
use Rattle.cells.specs.State.{State, state}
use Rattle.cells.proofs.Cells.{split}
use Rattle.word.specs.Refusal.{number_of, bit_of}
use Rattle.word.specs.declared.Refusal.{Refusal}
use Rattle.job.specs.Fields.{fields_from}
use Rattle.job.specs.declared.Field.{Field}
use Rattle.job.specs.declared.Output.{Output}
use Rattle.job.specs.declared.Kind.{Kind}
use Rattle.job.specs.declared.Kind.TheVariants as kind
use Rattle.lines.specs.Lines.{Line}
use Rattle.lines.specs.Text.{made, Holds, text_of, line_of, finished_text, refused_text}
use Rattle.lines.specs.Printed.{Printed, finished, refused, line, printed_by, printed_text}
use Rattle.lines.specs.Cursor.{start_cursor, answered_cursor, lines_at, line_count, next_in, next_from, next_line, line_next, next_of, printed_from, First, Gives, text_then, loop_texts}
use Rattle.lines.specs.declared.Cursor.{Cursor}
use Rattle.lines.specs.declared.Text.{Text}
use Rattle.lines.specs.declared.Next.{Next}
use Rattle.lines.specs.declared.found.Found.{Found}
use Rattle.lines.proofs.Cursors.{at_line, at_end, lines_at_start}
use Rattle.word.specs.declared.Refused.{Refused}
use Rattle.word.specs.Refusal.{refused_at}

-- ---- a cursor after a line has the answer behind it

abbrev Behind : Option Found → Type 0
Behind None = Unit {0}
Behind (Some f) = f.after.answered ≡ true

behind_output : (o : Output) (place i : ℕ) (rest : ℕ → Option Found) → ((n : ℕ) → Behind (rest n)) → Behind (next_in (Ok (kind.Prints o)) place i rest)
unfolding next_in
behind_output o place i rest h = split (ltb i (line_count o)) (λ e. rw e refl) (λ e. rw e (h _))

behind_in : (k : Result Kind Cause) (place i : ℕ) (rest : ℕ → Option Found) → ((n : ℕ) → Behind (rest n)) → Behind (next_in k place i rest)
unfolding next_in
behind_in (Ok kind.Settings) place i rest h = h i
behind_in (Ok (kind.Issue t w)) place i rest h = h i
behind_in (Ok (kind.HandOver file)) place i rest h = h i
behind_in (Ok (kind.Writes x)) place i rest h = h i
behind_in (Ok (kind.Prints o)) place i rest h = behind_output o place i rest h
behind_in (Err x) place i rest h = h i

behind_from : (fs : List Field) (i : ℕ) → Behind (next_from fs i)
unfolding next_from
behind_from [] i = tt
behind_from (f ∷ fs) i = behind_in f.kind f.place i (λ n. next_from fs n) (behind_from fs)

behind : (job : List ℕ) (c : Cursor) → Behind (next_line job c)
unfolding next_line
behind job c = behind_from (fields_from job c.at) c.line

-- ---- what is left, case by case

when_true : {A : Type 0} (b : Bool) (x y : A) → b ≡ true → cond b x y ≡ x
when_true b x y e = rw e

when_false : {A : Type 0} (b : Bool) (x y : A) → b ≡ false → cond b x y ≡ y
when_false b x y e = rw e

module _ (job : List ℕ) (s : State) where
  -- the lines from a cursor on, where the answer was read
  after_answer : (n : ℕ) (c : Cursor) → c.answered ≡ true → printed_from job (Ok n) c s ≡ map line (lines_at job c s)
  unfolding printed_from
  after_answer n c e = rw e

  pub first_finished : (n : ℕ) (c : Cursor) → c.answered ≡ false → printed_from job (Ok n) c s ≡ finished n ∷ printed_from job (Ok n) answered_cursor s
  unfolding printed_from printed_by
  first_finished n c e = rw e (ap (λ (l : List Line). finished n ∷ map line l) (sym (lines_at_start job s)))

  pub first_refused : (r : Refusal) (place : ℕ) (c : Cursor) → c.answered ≡ false
      → printed_from job (Err (refused_at r place)) c s ≡ refused (number_of r) place (bit_of r) ∷ printed_from job (Err (refused_at r place)) answered_cursor s
  unfolding printed_from printed_by
  first_refused r place c e = rw e

  pub last_refused : (r : Refusal) (place : ℕ) (c : Cursor) → c.answered ≡ true → printed_from job (Err (refused_at r place)) c s ≡ []
  unfolding printed_from
  last_refused r place c e = rw e

  pub first_line : (n : ℕ) (c : Cursor) → c.answered ≡ true → (f : Found) → next_line job c ≡ Some f
      → printed_from job (Ok n) c s ≡ line (line_of f.what s.dst s.registers) ∷ printed_from job (Ok n) f.after s
  first_line n c a f e =
      let b : f.after.answered ≡ true = rw e at (behind job c) in
      after_answer n c a
      ∙ ap (map line) (at_line job s c f e)
      ∙ ap (λ (l : List Printed). line (line_of f.what s.dst s.registers) ∷ l) (sym (after_answer n f.after b))

  pub last_line : (n : ℕ) (c : Cursor) → c.answered ≡ true → next_line job c ≡ None → printed_from job (Ok n) c s ≡ []
  last_line n c a e = after_answer n c a ∙ ap (map line) (at_end job s c e)

  -- ---- a loop that writes text after text

  -- the texts of a list
  abbrev texts : List Printed → List Text
  texts l = map (λ (p : Printed). made (printed_text p)) l

  abbrev left : Result ℕ Refused → Cursor → List Printed
  left o c = printed_from job o c s

  -- what comes next, and what is left after it
  turn_line : (n : ℕ) (c : Cursor) → c.answered ≡ true → (f : Option Found) → next_line job c ≡ f
      → texts (left (Ok n) c) ≡ text_then (line_next f s.dst s.registers) (λ d. texts (left (Ok n) d))
  unfolding text_then line_next
  turn_line n c a (Some f) e = ap texts (first_line n c a f e)
  turn_line n c a None e = ap texts (last_line n c a e)

  turn : (o : Result ℕ Refused) (c : Cursor) → texts (left o c) ≡ text_then (next_of job o c s.dst s.registers) (λ d. texts (left o d))
  unfolding next_of text_then
  turn (Ok n) c =
      split c.answered
      (λ a. turn_line n c a (next_line job c) refl ∙ ap on_to (sym (when_true c.answered _ _ a)))
      (λ a. ap texts (first_finished n c a) ∙ ap on_to (sym (when_false c.answered _ _ a)))
    where
      on_to : Option Next → List Text
      on_to x = text_then x (λ d. texts (left (Ok n) d))
  turn (Err x) c =
      split c.answered
      (λ a. ap texts (last_refused x.refusal x.place c a) ∙ ap on_to (sym (when_true c.answered _ _ a)))
      (λ a. ap texts (first_refused x.refusal x.place c a) ∙ ap on_to (sym (when_false c.answered _ _ a)))
    where
      on_to : Option Next → List Text
      on_to n = text_then n (λ d. texts (left (Err x) d))

  nothing : (l : List Text) → length l ≤ 0 → l ≡ []
  nothing [] h = refl
  nothing (x ∷ l) h = absurd (omega arith)

  on : (n : ℕ) (o : Result ℕ Refused) (x : Option Next) → ((d : Cursor) → length (texts (left o d)) ≤ n → loop_texts n job o d s ≡ texts (left o d))
      → length (text_then x (λ d. texts (left o d))) ≤ suc n → text_then x (λ d. loop_texts n job o d s) ≡ text_then x (λ d. texts (left o d))
  unfolding text_then
  on n o None ih h = refl
  on n o (Some x) ih h = ap (λ (l : List Text). x.text ∷ l) (ih x.after (omega arith))

  written_from : (n : ℕ) (o : Result ℕ Refused) (c : Cursor) → length (texts (left o c)) ≤ n → loop_texts n job o c s ≡ texts (left o c)
  unfolding loop_texts
  written_from zero o c h = sym (nothing (texts (left o c)) h)
  written_from (suc n) o c h =
      on n o (next_of job o c s.dst s.registers) (written_from n o) (rw (turn o c) at h) ∙ sym (turn o c)

  pub all_left : (o : Result ℕ Refused) → left o start_cursor ≡ printed_by job o s
  unfolding printed_from
  all_left (Ok n) = refl
  all_left (Err x) = refl

  -- from the start, in turns enough: the text of all that is printed, each once, in order
  pub written_all : (n : ℕ) (o : Result ℕ Refused) → length (texts (printed_by job o s)) ≤ n → loop_texts n job o start_cursor s ≡ texts (printed_by job o s)
  written_all n o h = written_from n o start_cursor (rw (all_left o) h) ∙ ap texts (all_left o)

-- each text leaves fewer, so a loop over them ends
pub fewer : (job : List ℕ) (o : Result ℕ Refused) (s : State) (c : Cursor) (x : Next) → First job o s c x.text x.after
    → length (printed_from job o x.after s) < length (printed_from job o c s)
fewer job o s c x f = omega (arith, ap length f.rest)

-- ---- what `next_text` gives, and that it is the definition's

module _ (job dst registers : List ℕ) (c : Cursor) where
  -- a text as the definition has it, and what it gives over any SrcA and SrcB
  abbrev Told : Result ℕ Refused → Option Next → Option Next → Type 0
  Told o x y = record { whole : x ≡ y; given : (a b : List ℕ) → Gives job o (state a b dst registers) c x }

  -- after the answer
  abbrev Later : Option Next → Type 0
  Later x =
      record {
        whole : x ≡ line_next (next_line job c) dst registers;
        given : c.answered ≡ true → (n : ℕ) (a b : List ℕ) → Gives job (Ok n) (state a b dst registers) c x;
      }

  pub told_line : (f : Found) (text : Text) → next_line job c ≡ Some f
      → text ≡ made (text_of (line_of f.what dst registers)) → Holds text (text_of (line_of f.what dst registers)) → Later (Some (record { text = text; after = f.after }))
  unfolding line_next printed_text
  told_line f text l t h =
      record {
        whole = rw (l, t);
        given = λ y n a b. record { printed = line (line_of f.what dst registers); holds = h; rest = first_line job (state a b dst registers) n c y f l };
      }

  pub told_last : (x : Option Next) → x ≡ None → next_line job c ≡ None → Later x
  unfolding line_next
  told_last x e l = rw e (record { whole = rw l; given = λ y n a b. last_line job (state a b dst registers) n c y l })

  pub told_later : (o : Result ℕ Refused) (n : ℕ) → o ≡ Ok n → c.answered ≡ true → (x : Option Next) → Later x → Told o x (next_of job o c dst registers)
  unfolding next_of
  told_later o n q y x l = rw q (record { whole = l.whole ∙ sym (when_true c.answered _ _ y); given = l.given y n })

  -- the answer
  pub told_finished : (o : Result ℕ Refused) (n : ℕ) → o ≡ Ok n → c.answered ≡ false → (text : Text) → text ≡ made (finished_text n) → Holds text (finished_text n)
      → (x : Next) → x ≡ record { text = text; after = answered_cursor } → Told o (Some x) (next_of job o c dst registers)
  unfolding next_of printed_text
  told_finished o n q y text t h x p =
      rw (q, p) (record {
        whole = ap (λ (u : Text). Some (record { text = u; after = answered_cursor })) t ∙ sym (when_false c.answered _ _ y);
        given = λ a b. record { printed = finished n; holds = h; rest = first_finished job (state a b dst registers) n c y };
      })

  pub told_refused : (o : Result ℕ Refused) (r : Refusal) (place : ℕ) → o ≡ Err (refused_at r place) → c.answered ≡ false → (text : Text)
      → text ≡ made (refused_text (number_of r) place (bit_of r)) → Holds text (refused_text (number_of r) place (bit_of r))
      → (x : Next) → x ≡ record { text = text; after = answered_cursor } → Told o (Some x) (next_of job o c dst registers)
  unfolding next_of printed_text
  told_refused o r place q y text t h x p =
      rw (q, p) (record {
        whole = ap (λ (u : Text). Some (record { text = u; after = answered_cursor })) t ∙ sym (when_false c.answered _ _ y);
        given = λ a b. record { printed = refused (number_of r) place (bit_of r); holds = h; rest = first_refused job (state a b dst registers) r place c y };
      })

  pub told_no_more : (o : Result ℕ Refused) (r : Refusal) (place : ℕ) → o ≡ Err (refused_at r place) → c.answered ≡ true → Told o None (next_of job o c dst registers)
  unfolding next_of
  told_no_more o r place q y =
      rw q (record {
        whole = sym (when_true c.answered _ _ y);
        given = λ a b. last_refused job (state a b dst registers) r place c y;
      })
