-- No text is cut: all that a run prints fits, so what a loop over the texts writes is, byte for byte, what the run prints. Assumes nothing.
use Rattle.job.specs.declared.Cause.{Cause}
use Rattle.std.specs.Prelude.{Result, Ok, Err}
use mathlib.Core.Path.{◌≡◌, refl, ap, ◌∙◌}
use mathlib.Core.List.{List, [], ◌∷◌, ◌++◌, map}
use Prim.Native.Nat.{ℕ, zero, suc, ◌+◌, ◌≤◌}
use native.Mathlib.Omega.{arith}
use lib.ListN.{length, get_or}
use Rattle.cells.specs.declared.Width.{Width}
use Rattle.cells.specs.Layout.{register}
use Rattle.cells.specs.State.{State}
use Rattle.word.specs.Refusal.{number_of, bit_of}
use Rattle.word.proofs.Numbers.{tabled_byte}
use Rattle.job.specs.Range.{OutputIn, InRange}
use Rattle.job.specs.Fields.{fields_from, EachField}
use Rattle.job.specs.declared.Output.{Output}
use Rattle.job.specs.declared.Output.TheVariants.{Rows, Register}
use Rattle.job.specs.declared.Kind.{Kind}
use Rattle.job.specs.declared.Kind.TheVariants as kind
use Rattle.job.specs.declared.Field.{Field}
use Rattle.job.proofs.Shaped.{Sound, sound}
use Rattle.run.specs.Run.{run_of, outcome_answer, run_answer}
use Rattle.run.proofs.SmallAnswers.{Small, run_small}
use Rattle.lines.specs.Lines.{Line, row_lines, output_lines, field_lines, lines_from, lines_of}
use Rattle.lines.specs.Text.{made, bytes_in, finished_text, bit_text, refused_text, word_finished, word_refused, word_at}
use Rattle.lines.specs.Printed.{Printed, line, printed_by, printed_text, texts_of}
use Rattle.lines.specs.Cursor.{start_cursor, loop_texts}
use Rattle.lines.proofs.Writing.{made_holds, number_short, numbers_short, bit_short, row_short, value_short}
use Rattle.lines.proofs.Cursors.{rows_few}
use Rattle.lines.proofs.Giving.{written_all}
use Rattle.word.specs.declared.Refused.{Refused}

-- each text of a list fits
abbrev Fit : List Printed → Type 0
Fit [] = Unit {0}
Fit (p ∷ l) = (length (printed_text p) ≤ 160) × Fit l

-- so its bytes are all there
whole_bytes : (l : List Printed) → Fit l → map bytes_in (map (λ (p : Printed). made (printed_text p)) l) ≡ map printed_text l
whole_bytes [] h = refl
whole_bytes (p ∷ l) h = λ i. (made_holds (printed_text p) h.0).first i ∷ whole_bytes l h.1 i

-- ---- lines

abbrev FitLines : List Line → Type 0
FitLines l = Fit (map line l)

fit_append : (a b : List Line) → FitLines a → FitLines b → FitLines (a ++ b)
fit_append [] b f g = g
fit_append (x ∷ a) b f g = (f.0, fit_append a b f.1 g)

fit_rows : (w : Width) (l : List ℕ) (first n : ℕ) → first + n ≤ 1024 → FitLines (row_lines w l first n)
unfolding row_lines printed_text
fit_rows w l first zero h = tt
fit_rows w l first (suc n) h = (row_short w l first (omega arith), fit_rows w l (suc first) n (omega arith))

fit_output : (o : Output) (s : State) → OutputIn o → FitLines (output_lines o s)
unfolding output_lines printed_text
fit_output (Rows w rows) s i = fit_rows w s.dst rows.first rows.count (omega (arith, i.inside, rows_few w))
fit_output (Register t r) s i = (value_short t r (get_or s.registers (register t r) 0) (omega (arith, i.thread)) (omega (arith, i.register)), tt)

fit_field : (k : Result Kind Cause) (s : State) → InRange k → FitLines (field_lines k s)
unfolding field_lines
fit_field (Ok kind.Settings) s i = tt
fit_field (Ok (kind.Issue t w)) s i = tt
fit_field (Ok (kind.HandOver file)) s i = tt
fit_field (Ok (kind.Writes x)) s i = tt
fit_field (Ok (kind.Prints o)) s i = fit_output o s i
fit_field (Err x) s i = tt

fit_lines : (job : List ℕ) (fs : List Field) (s : State) → EachField (Sound job) fs → FitLines (lines_from fs s)
unfolding lines_from
fit_lines job [] s w = tt
fit_lines job (f ∷ fs) s w = fit_append (field_lines f.kind s) (lines_from fs s) (fit_field f.kind s w.0.range) (fit_lines job fs s w.1)

-- ---- a run

fit_run : (job : List ℕ) (o : Result ℕ Refused) (s : State) → Small (outcome_answer o) → Fit (printed_by job o s)
unfolding printed_by printed_text finished_text refused_text lines_of
fit_run job (Ok n) s h = (number_short word_finished n (omega arith) (omega arith), fit_lines job (fields_from job 0) s (sound job 0))
fit_run job (Err x) s h =
    (numbers_short word_refused (number_of x.refusal) (omega (arith, tabled_byte (number_of x.refusal) h.0)) (omega arith) word_at x.place (omega (arith, h.1)) (omega arith) (bit_text (bit_of x.refusal)) (bit_short (bit_of x.refusal) (omega (arith, h.2.1))), tt)

length_map : {A B : Type 0} (f : A → B) (l : List A) → length (map f l) ≡ length l
length_map f [] = refl
length_map f (x ∷ l) = ap suc (length_map f l)

-- a loop over the texts of a run, in turns enough, writes all that the run prints, each text once, in order
pub run_written : (job : List ℕ) (s : State) (n : ℕ) → length (texts_of job (run_of job s)) ≤ n
    → map bytes_in (loop_texts n job (run_of job s).outcome start_cursor (run_of job s).state) ≡ texts_of job (run_of job s)
unfolding run_answer
run_written job s n h =
    let o = (run_of job s).outcome in
    let t = (run_of job s).state in
    let l = printed_by job o t in
    let k : length (map (λ (p : Printed). made (printed_text p)) l) ≤ n =
    omega (arith, h, length_map printed_text l, length_map (λ (p : Printed). made (printed_text p)) l) in
    ap (map bytes_in) (written_all job t n o k) ∙ whole_bytes l (fit_run job o t (run_small job s))
