-- Reading by the cursor gives the lines of the job, one after the other. Assumes nothing.
use Rattle.job.specs.declared.Cause.{Cause}
use mathlib.Core.Path.{◌≡◌, refl, sym, ap, subst, ◌∙◌}
use mathlib.Core.List.{List, [], ◌∷◌, ◌++◌}
use Rattle.std.specs.Prelude.{None, Some, Result, Ok, Err}
use Rattle.std.specs.declared.option.Option.{Option}
use Prim.Native.Nat.{ℕ, zero, suc, ◌+◌, ◌-◌, ◌≤◌, ◌<◌}
use native.Mathlib.Omega.{arith}
use native.Mathlib.Numerals.{add-one}
use borrow.Author.Tests.{lt-ltb, le-ltb, ltb-true, ltb-false}
use lib.Dec.{ltb}
use lib.ListN.{length, drop}
use lib.Seq.{drop-append-le, drop-append-add, drop-nil}
use Rattle.cells.specs.declared.Width.{Width}
use Rattle.cells.specs.declared.Width.TheVariants.{Bits32, Bits16}
use Rattle.cells.specs.Places.{row_count}
use Rattle.cells.proofs.Cells.{split}
use Rattle.job.specs.Fields.{field_at, fields_from, EachField}
use Rattle.job.specs.declared.Kind.{Kind}
use Rattle.job.specs.declared.Kind.TheVariants.{Settings, Issue, HandOver, Writes, Prints}
use Rattle.job.specs.declared.Output.{Output}
use Rattle.job.specs.declared.Output.TheVariants.{Rows, Register}
use Rattle.job.specs.declared.Field.{Field}
use Rattle.job.specs.Range.{InRange}
use Rattle.job.proofs.Shaped.{each_field}
use Rattle.job.proofs.Says.{field_in_range}
use Rattle.job.proofs.Walk.{grows, place_at, fields_end, fields_step}
use Rattle.cells.specs.State.{State}
use Rattle.lines.specs.Lines.{Line, row, columns, row_lines, output_lines, field_lines, lines_from, lines_of}
use Rattle.lines.specs.Text.{line_of}
use Rattle.lines.specs.Cursor.{output_of, answered_cursor, line_cursor, lines_at, line_count, what_at, next_in, next_from, next_line}
use Rattle.lines.specs.declared.Cursor.{Cursor}
use Rattle.lines.specs.declared.found.Found.{Found}

-- ---- a turn of `next_line`: f is a field of kind k, i lines from there on were read

-- a field that is an output is one of kind Prints
pub is_output : (k : Result Kind Cause) (o : Output) → output_of k ≡ Some o → k ≡ Ok (Prints o)
is_output (Ok Settings) o h = absurd (let z : ◌≡◌ {A = ℕ} 0 1 = cc in omega arith)
is_output (Ok (Issue t w)) o h = absurd (let z : ◌≡◌ {A = ℕ} 0 1 = cc in omega arith)
is_output (Ok (HandOver file)) o h = absurd (let z : ◌≡◌ {A = ℕ} 0 1 = cc in omega arith)
is_output (Ok (Writes x)) o h = absurd (let z : ◌≡◌ {A = ℕ} 0 1 = cc in omega arith)
is_output (Ok (Prints p)) o h = let e : p ≡ o = cc in ap (λ (o : Output). Ok (Prints o)) e
is_output (Err x) o h = absurd (let z : ◌≡◌ {A = ℕ} 0 1 = cc in omega arith)

module _ (f : Field) (fs : List Field) (i : ℕ) where
  -- a field that prints nothing
  pub next_silent : (k : Result Kind Cause) → f.kind ≡ k → output_of k ≡ None → next_from (f ∷ fs) i ≡ next_from fs i
  unfolding next_from next_in
  next_silent (Ok Settings) q h = rw q
  next_silent (Ok (Issue t w)) q h = rw q
  next_silent (Ok (HandOver file)) q h = rw q
  next_silent (Ok (Writes x)) q h = rw q
  next_silent (Ok (Prints o)) q h = absurd (let z : ◌≡◌ {A = ℕ} 0 1 = cc in omega arith)
  next_silent (Err x) q h = rw q

  -- an output of n lines
  module _ (o : Output) (q : f.kind ≡ Ok (Prints o)) (n : ℕ) (p : n ≡ line_count o) where
    pub next_here : i < n → next_from (f ∷ fs) i ≡ Some (record { what = what_at o i; after = line_cursor f.place (i + 1) })
    unfolding next_from next_in
    next_here h = let l : i < line_count o = rw p at h in rw (q, lt-ltb i (line_count o) l)

    pub next_on : n ≤ i → next_from (f ∷ fs) i ≡ next_from fs (i - n)
    unfolding next_from next_in
    next_on h = let l : line_count o ≤ i = rw p at h in rw (q, p, le-ltb i (line_count o) l)

pub next_none : (i : ℕ) → next_from [] i ≡ None
unfolding next_from
next_none i = refl

-- ---- the loop: fs are the fields that are left, and i lines from there on were read

pub record Ahead (job : List ℕ) (at line : ℕ) (fs : List Field) (i : ℕ) : Type 0 where
  pub same : next_from fs i ≡ next_from (fields_from job at) line
  pub inside : EachField (λ f. InRange f.kind) fs

pub ahead_first : (job : List ℕ) (at line : ℕ) → Ahead job at line (fields_from job at) line
ahead_first job at line = record { same = refl; inside = each_field (λ f. InRange f.kind) job (λ p h. field_in_range job p) at }

pub ahead_end : {job : List ℕ} {at line i : ℕ} {fs : List Field} → Ahead job at line fs i → fs ≡ [] → None ≡ next_from (fields_from job at) line
ahead_end {i = i} t e = sym (next_none i) ∙ sym (ap (λ (hs : List Field). next_from hs i) e) ∙ t.same

-- f is the first of them
module _ {job : List ℕ} {at line i : ℕ} {fs gs : List Field} {f : Field} (t : Ahead job at line fs i) (e : fs ≡ f ∷ gs) where
  insides : EachField (λ f. InRange f.kind) (f ∷ gs)
  insides = subst (EachField (λ f. InRange f.kind)) e t.inside

  pub ahead_here : InRange f.kind
  ahead_here = insides.0

  pub ahead_stop : {x : Option Found} → next_from (f ∷ gs) i ≡ x → x ≡ next_from (fields_from job at) line
  ahead_stop q = sym q ∙ sym (ap (λ (hs : List Field). next_from hs i) e) ∙ t.same

  pub ahead_on : {n : ℕ} → next_from (f ∷ gs) i ≡ next_from gs n → Ahead job at line gs n
  ahead_on q = record { same = sym q ∙ sym (ap (λ (hs : List Field). next_from hs i) e) ∙ t.same; inside = insides.1 }

-- ---- the lines of an output

pub rows_few : (w : Width) → row_count w ≤ 1024
rows_few Bits32 = omega arith
rows_few Bits16 = omega arith

length_rows : (w : Width) (l : List ℕ) (first n : ℕ) → length (row_lines w l first n) ≡ n
unfolding row_lines
length_rows w l first zero = refl
length_rows w l first (suc n) = ap suc (length_rows w l (suc first) n)

length_output : (o : Output) (s : State) → length (output_lines o s) ≡ line_count o
unfolding output_lines
length_output (Rows w rows) s = length_rows w s.dst rows.first rows.count
length_output (Register t r) s = refl

drop_rows : (w : Width) (l : List ℕ) (first n i : ℕ) → i < n
    → drop i (row_lines w l first n) ≡ row w (first + i) (columns w l (first + i) 0 16) ∷ drop (suc i) (row_lines w l first n)
unfolding row_lines
drop_rows w l first zero i h = absurd (omega arith)
drop_rows w l first (suc n) zero h = let e : first + 0 ≡ first = omega arith in rw e
drop_rows w l first (suc n) (suc i) h = let e : first + suc i ≡ suc first + i = omega arith in rw e (drop_rows w l (suc first) n i (omega arith))

-- its i-th line is what `what_at` says
drop_output : (o : Output) (s : State) (i : ℕ) → i < line_count o
    → drop i (output_lines o s) ≡ line_of (what_at o i) s.dst s.registers ∷ drop (suc i) (output_lines o s)
unfolding output_lines line_of
drop_output (Rows w rows) s i h = drop_rows w s.dst rows.first rows.count i h
drop_output (Register t r) s zero h = refl
drop_output (Register t r) s (suc i) h = absurd (omega arith)

-- ---- reading on

-- a line that was found and the lines after it
unfoldable read_on : Option Found → (Cursor → List Line) → State → List Line
read_on None rest s = []
read_on (Some f) rest s = line_of f.what s.dst s.registers ∷ rest f.after

module _ (job : List ℕ) (s : State) where
  -- what was found, and the lines after it
  abbrev reads : Option Found → List Line
  reads r = read_on r (λ d. lines_at job d s) s

  -- what is found of the fields from f on, where that is found of those after it
  abbrev FoundFrom : List Field → Type 0
  FoundFrom fs = (i : ℕ) → drop i (lines_from fs s) ≡ reads (next_from fs i)

  -- an output: one of its own lines, or one of those after it
  found_output : (f : Field) (fs : List Field) (o : Output) → f.kind ≡ Ok (Prints o) → FoundFrom fs
      → ((i : ℕ) → lines_at job (line_cursor f.place i) s ≡ drop i (lines_from (f ∷ fs) s)) → FoundFrom (f ∷ fs)
  unfolding lines_from field_lines read_on
  found_output f fs o q rest back i =
      let m = line_count o in
      let here : lines_from (f ∷ fs) s ≡ output_lines o s ++ lines_from fs s = rw q in
      split (ltb i m)
      (λ b.
      let h = ltb-true i m b in
      let line = line_of (what_at o i) s.dst s.registers in
      let own : (k : ℕ) → k ≤ m → drop k (lines_from (f ∷ fs) s) ≡ drop k (output_lines o s) ++ lines_from fs s =
      λ k l. ap (drop k) here ∙ drop-append-le k (output_lines o s) (lines_from fs s) (rw length_output l) in
      own i (omega arith)
      ∙ ap (λ (l : List Line). l ++ lines_from fs s) (drop_output o s i h)
      ∙ ap (λ (l : List Line). line ∷ l) (sym (own (suc i) (omega arith)) ∙ ap (λ (n : ℕ). drop n (lines_from (f ∷ fs) s)) (sym (add-one i)) ∙ sym (back (i + 1)))
      ∙ sym (ap reads (next_here f fs i o q m refl h)))
      (λ b.
      let h = ltb-false i m b in
      let e : i ≡ length (output_lines o s) + (i - m) = omega (arith, length_output o s) in
      ap (drop i) here
      ∙ ap (λ (n : ℕ). drop n (output_lines o s ++ lines_from fs s)) e
      ∙ drop-append-add (output_lines o s) (lines_from fs s) (i - m)
      ∙ rest (i - m)
      ∙ sym (ap reads (next_on f fs i o q m refl h)))

  found_field : (f : Field) (fs : List Field) → FoundFrom fs
      → ((i : ℕ) → lines_at job (line_cursor f.place i) s ≡ drop i (lines_from (f ∷ fs) s)) → (k : Result Kind Cause) → f.kind ≡ k → FoundFrom (f ∷ fs)
  unfolding lines_from field_lines next_from next_in
  found_field f fs rest back (Ok Settings) q i = rw q (rest i)
  found_field f fs rest back (Ok (Issue t w)) q i = rw q (rest i)
  found_field f fs rest back (Ok (HandOver file)) q i = rw q (rest i)
  found_field f fs rest back (Ok (Writes x)) q i = rw q (rest i)
  found_field f fs rest back (Ok (Prints o)) q i = found_output f fs o q rest back i
  found_field f fs rest back (Err x) q i = rw q (rest i)

  none : (at : ℕ) → length job ≤ at → FoundFrom (fields_from job at)
  unfolding lines_from read_on
  none at h i = rw (fields_end job at h) (drop-nil i ∙ sym (ap reads (next_none i)))

  -- the lines from a cursor at a field are those of the fields from there on
  back : (at : ℕ) → at < length job → (i : ℕ) → lines_at job (line_cursor (field_at job at).place i) s ≡ drop i (lines_from (field_at job at ∷ fields_from job (field_at job at).next) s)
  unfolding lines_at
  back at h i =
      ap (λ (n : ℕ). drop i (lines_from (fields_from job n) s)) (place_at job at) ∙ ap (λ (fs : List Field). drop i (lines_from fs s)) (fields_step job at h)

  go : (n at : ℕ) → length job ≤ at + n → FoundFrom (fields_from job at)
  go zero at l = none at (omega arith)
  go (suc n) at l =
      split (ltb at (length job))
      (λ e.
      let h = ltb-true at (length job) e in
      let g = grows job at h in
      rw (fields_step job at h)
      (found_field (field_at job at) (fields_from job (field_at job at).next) (go n (field_at job at).next (omega arith)) (back at h) (field_at job at).kind refl))
      (λ e. none at (ltb-false at (length job) e))

  -- the lines from a cursor on are what `next_line` finds there, then the lines from the cursor after it on
  read_on_lem : (c : Cursor) → lines_at job c s ≡ read_on (next_line job c) (λ d. lines_at job d s) s
  unfolding lines_at next_line
  read_on_lem c = go (length job) c.at (omega arith) c.line

  module _ (c : Cursor) where
    pub at_line : (f : Found) → next_line job c ≡ Some f → lines_at job c s ≡ line_of f.what s.dst s.registers ∷ lines_at job f.after s
    unfolding read_on
    at_line f e = read_on_lem c ∙ ap reads e

    pub at_end : next_line job c ≡ None → lines_at job c s ≡ []
    unfolding read_on
    at_end e = read_on_lem c ∙ ap reads e

  pub lines_at_start : lines_at job answered_cursor s ≡ lines_of job s
  unfolding lines_at lines_of
  lines_at_start = refl
