-- What an iterator over the texts of a run has left: it begins with all that the run prints, and a text is the first of it. Assumes nothing.
use Rattle.job.specs.declared.Cause.{Cause}
use Rattle.std.specs.Prelude.{Result, Ok, Err}
use mathlib.Core.Path.{◌≡◌, refl, sym, ap, ◌∙◌}
use mathlib.Core.List.{List, [], ◌∷◌, ◌++◌, map}
use Prim.Native.Nat.{ℕ}
use Rattle.cells.specs.State.{State, state}
use Rattle.job.specs.Fields.{fields_from}
use Rattle.job.specs.declared.Output.{Output}
use Rattle.job.specs.declared.Output.TheVariants.{Rows, Register}
use Rattle.job.specs.declared.Kind.{Kind}
use Rattle.job.specs.declared.Kind.TheVariants as kind
use Rattle.job.specs.declared.Field.{Field}
use Rattle.lines.specs.Lines.{Line, output_lines, field_lines, lines_from, lines_of}
use Rattle.lines.specs.Text.{bytes_in}
use Rattle.lines.specs.Printed.{finished, line, printed_by, printed_text}
use Rattle.lines.specs.Cursor.{start_cursor, printed_from, First}
use Rattle.lines.specs.declared.Cursor.{Cursor}
use Rattle.lines.specs.declared.Next.{Next}
use Rattle.lines.proofs.Giving.{all_left}
use Rattle.word.specs.declared.Refused.{Refused}

-- no line turns on SrcA and SrcB
module _ (a b dst registers : List ℕ) where
  abbrev over : State
  over = state a b dst registers

  abbrev bare : State
  bare = state [] [] dst registers

  same_output : (o : Output) → output_lines o over ≡ output_lines o bare
  unfolding output_lines
  same_output (Rows w rows) = refl
  same_output (Register t r) = refl

  same_field : (k : Result Kind Cause) → field_lines k over ≡ field_lines k bare
  unfolding field_lines
  same_field (Ok kind.Settings) = refl
  same_field (Ok (kind.Issue t w)) = refl
  same_field (Ok (kind.HandOver file)) = refl
  same_field (Ok (kind.Writes x)) = refl
  same_field (Ok (kind.Prints o)) = same_output o
  same_field (Err x) = refl

  same_lines : (fs : List Field) → lines_from fs over ≡ lines_from fs bare
  unfolding lines_from
  same_lines [] = refl
  same_lines (f ∷ fs) = ap (λ (l : List Line). l ++ lines_from fs over) (same_field f.kind) ∙ ap (λ (l : List Line). field_lines f.kind bare ++ l) (same_lines fs)

  same_printed : (job : List ℕ) (o : Result ℕ Refused) → printed_by job o over ≡ printed_by job o bare
  unfolding printed_by lines_of
  same_printed job (Ok n) = ap (λ (l : List Line). finished n ∷ map line l) (same_lines (fields_from job 0))
  same_printed job (Err x) = refl

  pub all_texts : (job : List ℕ) (o : Result ℕ Refused) (c : Cursor) → c ≡ start_cursor
      → map printed_text (printed_from job o c bare) ≡ map printed_text (printed_by job o over)
  all_texts job o c e = rw e (ap (map printed_text) (all_left job bare o ∙ sym (same_printed job o)))

-- a text, and what is left after it
pub text_first : (job : List ℕ) (o : Result ℕ Refused) (s : State) (c : Cursor) (x : Next) → First job o s c x.text x.after
    → map printed_text (printed_from job o c s) ≡ bytes_in x.text ∷ map printed_text (printed_from job o x.after s)
text_first job o s c x f =
    ap (map printed_text) f.rest ∙ ap (λ (l : List ℕ). l ∷ map printed_text (printed_from job o x.after s)) (sym f.holds.first)
