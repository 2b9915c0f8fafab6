-- The answers in the paper's numbers: they go by the answer, and a field carries what stands in the job's bytes. Assumes nothing.
use mathlib.Core.Path.{◌≡◌, refl, sym, ap, ◌∙◌, subst}
use mathlib.Core.Bool.{Bool, true, cond}
use mathlib.Core.List.{List, [], ◌∷◌}
use Prim.Native.Nat.{ℕ, ◌+◌, ◌-◌, ◌≤◌, ◌<◌}
use native.Mathlib.Nat.{add-sub_cancel_left}
use native.Mathlib.Omega.{arith}
use borrow.Author.Tests.{lt-leb, le-leb, eqb-true}
use lib.Dec.{leb, ltb, eqb}
use lib.ListN.{length, get_or, take, drop}
use Rattle.std.specs.Prelude.{⊤, Result, Ok, Err}
use Rattle.cells.specs.declared.layout.File.{File}
use Rattle.cells.specs.declared.layout.File.TheVariants.{A, B}
use Rattle.cells.specs.Layout.{thread_count, span}
use Rattle.cells.specs.Places.{row_count}
use Rattle.cells.specs.Tests.{all}
use Rattle.job.specs.Bytes.{le2, le4}
use Rattle.job.specs.Settings.{settings_bytes, settings_right}
use Rattle.cells.proofs.Cells.{split}
use Rattle.cells.specs.declared.Width.{Width}
use Rattle.job.specs.Kinds.{if_right, if_long, register_tests, most_rows, load_span, load_length_tests, src_load_tests, dst_load_tests, dst_rows_tests, settings_kind, load_src, load_dst, load_file, load_rows, load_register, hand_over_file, issue, output_rows, output_register, zero_rows, read_kind}
use Rattle.job.specs.declared.Cause.{Cause}
use Rattle.job.specs.declared.Cause.TheVariants.{CutOff, Tag, Length, Value}
use Rattle.job.specs.declared.Kind.{Kind}
use Rattle.job.specs.declared.Kind.TheVariants.{Settings, Issue, HandOver, Writes, Prints}
use Rattle.job.specs.declared.Write.TheVariants.{LoadSrc, LoadDst, LoadRegister, ZeroRows}
use Rattle.job.specs.declared.Output.TheVariants.{Rows, Register}
use Rattle.job.specs.Answers.{carries, file_number, width_numbers, width_answer, kind_numbers, field_numbers, payload_numbers, standing, field_answer, shape_numbers, shape_answer}
use Rattle.job.specs.Fields.{end_at, payload_at, job_width, whole_field, field_at}
use Rattle.job.specs.Shape.{shape_of}
use Rattle.job.specs.declared.Field.{Field}
use Rattle.job.specs.declared.WrongAt.{WrongAt}
use Rattle.job.proofs.Says.{chosen}
use Rattle.job.proofs.Walk.{place_at}
use Rattle.job.proofs.Shaped.{NotWrong}

-- ---- the field at a place, by its end

module _ (job : List ℕ) (at : ℕ) where
  pub field_cut : length job < end_at job at → whole_field at (Err CutOff) (length job) ≡ field_at job at
  unfolding field_at
  field_cut h = rw (lt-leb (end_at job at) (length job) h)

  pub field_whole : (n : ℕ) (f : Field) → n ≡ le2 job (at + 1) → at + 3 + n ≤ length job
      → f ≡ whole_field at (read_kind (job_width job) (get_or job at 0) (take (at + 3 + n - (at + 3)) (drop (at + 3) job))) (at + 3 + n) → f ≡ field_at job at
  unfolding field_at
  field_whole n f e h q = q ∙ rw (← e, le-leb (at + 3 + n) (length job) h, add-sub_cancel_left (at + 3) n)

  -- of a known tag
  pub field_tagged : (tag n : ℕ) (k : Result Kind Cause) → get_or job at 0 ≡ tag → n ≡ le2 job (at + 1) → at + 3 + n ≤ length job
      → k ≡ read_kind (job_width job) tag (take (at + 3 + n - (at + 3)) (drop (at + 3) job)) → whole_field at k (at + 3 + n) ≡ field_at job at
  field_tagged tag n k t e h q = field_whole n (whole_field at k (at + 3 + n)) e h (rw (q, ← t))

differ : {A : Type 0} → ◌≡◌ {A = ℕ} 0 1 → A
differ z = absurd (omega arith)

-- ---- the answer in numbers goes by the answer

pub width_answered : (job : List ℕ) (w : Width) → w ≡ job_width job → record { width : w ≡ job_width job; answer : width_numbers w ≡ width_answer job }
width_answered job w e = record { width = e; answer = ap width_numbers e }

pub shape_answered : (job : List ℕ) (s : Result ⊤ WrongAt) → s ≡ shape_of job → record { shape : s ≡ shape_of job; answer : shape_numbers s ≡ shape_answer job }
shape_answered job s e = record { shape = e; answer = ap shape_numbers e }

-- ---- a field that is not wrong carries its tag and the numbers of its payload

module _ (at : ℕ) (v : Width) (p : List ℕ) where
  record Carried (tag : ℕ) (k : Result Kind Cause) : Type 0 where
    same : ((c : Cause) → k ≡ Err c → ⊥) → kind_numbers at k ≡ carries tag (payload_numbers tag p)

  module _ (tag : ℕ) where
    or_wrong : (b : Bool) (x : Result Kind Cause) (c : Cause) → (b ≡ true → Carried tag x) → Carried tag (cond b x (Err c))
    or_wrong b x c f = chosen (Carried tag) b x (Err c) f (λ e. record { same = λ w. absurd (w c refl) })

    by_tests : (b : Bool) (l : List Bool) (k : Kind) → kind_numbers at (Ok k) ≡ carries tag (payload_numbers tag p) → Carried tag (if_long b (if_right l k))
    by_tests b l k h = or_wrong b (if_right l k) Length (λ e. or_wrong (all l) (Ok k) Value (λ e. record { same = λ w. h }))

  settings_carried : Carried 1 (settings_kind p)
  unfolding settings_kind
  settings_carried = or_wrong 1 (eqb (length p) settings_bytes) (cond (settings_right p) (Ok Settings) (Err Value)) Length (λ e. or_wrong 1 (settings_right p) (Ok Settings) Value (λ e. record { same = λ w. refl }))

  src_carried : (file : File) → get_or p 0 0 ≡ file_number file → Carried 2 (load_src file (load_span p) p)
  unfolding load_src
  src_carried file e = or_wrong 2 (all (src_load_tests (load_span p) p)) (Ok (Writes (LoadSrc file (load_span p)))) Value (λ _. record { same = λ w. rw e })

  dst_carried : get_or p 0 0 ≡ 2 → Carried 2 (load_dst v (load_span p) p)
  unfolding load_dst
  dst_carried e = or_wrong 2 (all (dst_load_tests v (load_span p) p)) (Ok (Writes (LoadDst v (load_span p)))) Value (λ _. record { same = λ w. rw e })

  rows_carried : Carried 2 (load_rows v p)
  unfolding load_rows load_file
  rows_carried =
      let f = get_or p 0 0 in
      or_wrong 2 (all (load_length_tests p)) (load_file v f (load_span p) p) Length
      (λ _. chosen (Carried 2) (eqb f 0) _ _ (λ e. src_carried A (eqb-true f 0 e))
      (λ _. chosen (Carried 2) (eqb f 1) _ _ (λ e. src_carried B (eqb-true f 1 e))
      (λ _. or_wrong 2 (eqb f 2) _ Value (λ e. dst_carried (eqb-true f 2 e)))))

  register_carried : Carried 3 (load_register p)
  unfolding load_register
  register_carried = by_tests 3 (eqb (length p) 6) (register_tests (get_or p 0 0) (get_or p 1 0)) (Writes (LoadRegister (get_or p 0 0) (get_or p 1 0))) refl

  hand_over_carried : Carried 4 (hand_over_file p)
  unfolding hand_over_file
  hand_over_carried =
      let f = get_or p 0 0 in
      let other = cond (eqb f 1) (Ok (HandOver B)) (Err Value) in
      or_wrong 4 (eqb (length p) 1) (cond (eqb f 0) (Ok (HandOver A)) other) Length
      (λ _. chosen (Carried 4) (eqb f 0) (Ok (HandOver A)) other (λ e. record { same = λ w. rw (eqb-true f 0 e) })
      (λ _. or_wrong 4 (eqb f 1) (Ok (HandOver B)) Value (λ e. record { same = λ w. rw (eqb-true f 1 e) })))

  issue_carried : Carried 5 (issue p)
  unfolding issue
  issue_carried = by_tests 5 (eqb (length p) 5) (ltb (get_or p 0 0) thread_count ∷ []) (Issue (get_or p 0 0) (le4 p 1)) refl

  output_rows_carried : Carried 6 (output_rows v p)
  unfolding output_rows
  output_rows_carried =
      let rows = span (le2 p 0) (get_or p 2 0) in
      by_tests 6 (eqb (length p) 3) (dst_rows_tests v rows most_rows) (Prints (Rows v rows)) refl

  output_register_carried : Carried 7 (output_register p)
  unfolding output_register
  output_register_carried = by_tests 7 (eqb (length p) 2) (register_tests (get_or p 0 0) (get_or p 1 0)) (Prints (Register (get_or p 0 0) (get_or p 1 0))) refl

  zero_carried : Carried 8 (zero_rows v p)
  unfolding zero_rows
  zero_carried =
      let rows = span (le2 p 0) (le2 p 2) in
      by_tests 8 (eqb (length p) 4) (dst_rows_tests v rows (row_count v)) (Writes (ZeroRows v rows)) refl

  or_next : (tag n : ℕ) (x y : Result Kind Cause) → Carried n x → Carried tag y → Carried tag (cond (eqb tag n) x y)
  or_next tag n x y f g = chosen (Carried tag) (eqb tag n) x y (λ e. subst (λ (t : ℕ). Carried t x) (sym (eqb-true tag n e)) f) (λ e. g)

  carried : (tag : ℕ) → Carried tag (read_kind v tag p)
  unfolding read_kind
  carried tag =
      or_next tag 1 _ _ settings_carried
      (or_next tag 2 _ _ rows_carried
      (or_next tag 3 _ _ register_carried
      (or_next tag 4 _ _ hand_over_carried
      (or_next tag 5 _ _ issue_carried
      (or_next tag 6 _ _ output_rows_carried
      (or_next tag 7 _ _ output_register_carried
      (or_next tag 8 _ _ zero_carried (record { same = λ w. absurd (w Tag refl) }))))))))

numbers_stand : (job : List ℕ) (at : ℕ) → NotWrong (field_at job at) → field_numbers (field_at job at) ≡ carries (get_or job at 0) (payload_numbers (get_or job at 0) (payload_at job at))
unfolding field_at
numbers_stand job at w =
    split (leb (end_at job at) (length job))
    (λ e. let x = rw e at w in rw e ((carried at (job_width job) (payload_at job at) (get_or job at 0)).same x))
    (λ e. absurd (w CutOff (rw e)))

-- so a field answers what stands there
stands : (job : List ℕ) (at : ℕ) → field_numbers (field_at job at) ≡ field_answer job at
stands job at = go (field_at job at).kind refl
  where
    right : (k : Result Kind Cause) → (field_at job at).kind ≡ k → ((c : Cause) → k ≡ Err c → ⊥) → field_numbers (field_at job at) ≡ carries (get_or job at 0) (payload_numbers (get_or job at 0) (payload_at job at))
    right k e d = numbers_stand job at (λ c q. d c (sym e ∙ q))

    go : (k : Result Kind Cause) → (field_at job at).kind ≡ k → field_numbers (field_at job at) ≡ standing k at (get_or job at 0) (payload_at job at)
    go (Ok Settings) e = right (Ok Settings) e (λ c q. differ (cc))
    go (Ok (Issue t w)) e = right (Ok (Issue t w)) e (λ c q. differ (cc))
    go (Ok (HandOver file)) e = right (Ok (HandOver file)) e (λ c q. differ (cc))
    go (Ok (Writes x)) e = right (Ok (Writes x)) e (λ c q. differ (cc))
    go (Ok (Prints o)) e = right (Ok (Prints o)) e (λ c q. differ (cc))
    go (Err c) e = rw (e, place_at job at)

pub field_answered : (job : List ℕ) (at : ℕ) (f : Field) → f ≡ field_at job at → record { field : f ≡ field_at job at; answer : field_numbers f ≡ field_answer job at }
field_answered job at f e = record { field = e; answer = ap field_numbers e ∙ stands job at }
