-- A field is right by the table of tags exactly when its reader finds no fault: of the settings, of a field that acts, and of an output. Assumes nothing.
use mathlib.Core.Path.{◌≡◌, refl, subst}
use mathlib.Core.Bool.{Bool, true, false, cond}
use mathlib.Core.List.{List, [], ◌∷◌}
use Prim.Native.Nat.{ℕ, ◌+◌, ◌*◌, ◌^◌, ◌≤◌}
use native.Mathlib.Omega.{arith}
use borrow.Author.Tests.{ltb-true, lt-ltb, leb-true, le-leb, eqb-true, eq-eqb, ne_eqb, eqb-false}
use lib.Dec.{leb, ltb, eqb}
use lib.ListN.{length, get_or}
use Rattle.std.specs.Prelude.{Result, Ok, Err}
use Rattle.cells.specs.declared.layout.File.{File}
use Rattle.cells.specs.declared.layout.File.TheVariants.{A, B}
use Rattle.cells.specs.declared.layout.Span.{Span}
use Rattle.cells.specs.declared.Width.{Width}
use Rattle.cells.specs.declared.Width.TheVariants.{Bits32, Bits16}
use Rattle.cells.specs.Layout.{span, thread_count, thread_registers}
use Rattle.cells.specs.Places.{row_count}
use Rattle.cells.specs.Tests.{below, all}
use Rattle.cells.proofs.Cells.{split}
use Rattle.cells.proofs.Tests.{Each, each_of, all_of, below_of, of_below}
use Rattle.control.specs.Range.{slot_tests, slot_ok, settings_tests}
use Rattle.job.specs.declared.Cause.{Cause}
use Rattle.job.specs.Bytes.{le2}
use Rattle.job.specs.Settings.{slot_of, slot_right, thread_start, thread_right_tests, thread_right, settings_of, settings_right_tests, settings_right}
use Rattle.job.specs.Kinds.{value_right, most_rows, dst_values, dst_rows_tests, register_tests, load_span, load_length_tests, src_load_tests, dst_load_tests, settings_kind, load_src, load_dst, load_file, load_rows, load_register, hand_over_file, issue, output_rows, output_register, zero_rows, read_kind}
use Rattle.job.specs.declared.Kind.{Kind}
use Rattle.job.specs.declared.Kind.TheVariants as kind
use Rattle.job.specs.declared.Write.{Write}
use Rattle.job.specs.declared.Write.TheVariants as write
use Rattle.job.specs.declared.Output.{Output}
use Rattle.job.specs.declared.Output.TheVariants as output
use Rattle.job.specs.Answers.{file_number}
use Rattle.job.proofs.Says.{WriteSays, OutputSays, Says, says}
use Rattle.demand.proofs.Ranges.{upto, least}
use Rattle.demand.specs.WellShaped as shape
use Rattle.demand.specs.WellShaped.{FieldBytes, SlotIn, ThreadIn, SettingsIn, RowsInside, ValuesIn, FileIn, LoadRowsIn, RegisterNamed, HandOverIn, IssueIn, OutputRowsIn, ZeroRowsIn, Settles, Prints, Acts}

one_of_two : (n : ℕ) → n ≤ 1 → (n ≡ 0 → ⊥) → eqb n 1 ≡ true
one_of_two n h d = eq-eqb n 1 (omega arith)

-- ---- settings

module _ (p : List ℕ) where
  slot_right_lem : (b : ℕ) → SlotIn p b → slot_ok (slot_of p b) ≡ true
  unfolding slot_of
  slot_right_lem b h =
      all_of (slot_tests (slot_of p b))
      (upto 63 h.srca, (upto 63 h.srcb, (upto 1023 h.dst, (upto 3 h.fidelity, tt))))

  slot_in_lem : (b : ℕ) → slot_ok (slot_of p b) ≡ true → SlotIn p b
  unfolding slot_of
  slot_in_lem b e =
      let t = each_of (slot_tests (slot_of p b)) e in
      record {
        srca = least 63 t.0;
        srcb = least 63 t.1.0;
        dst = least 1023 t.1.1.0;
        fidelity = least 3 t.1.1.1.0;
      }

  thread_right_lem : (b : ℕ) → ThreadIn p b → thread_right p b ≡ true
  unfolding thread_right
  thread_right_lem b h =
      all_of (thread_right_tests p b) (
        upto 1023 h.offset,
        (
          upto 3 h.fidelity,
          (
            upto 1 h.extra,
            (of_below (slot_right p (b + 4)) 8 (λ s l. slot_right_lem (b + 4 + 6 * s) (h.slots s l)), tt),
          ),
        ),
      )

  thread_in : (b : ℕ) → thread_right p b ≡ true → ThreadIn p b
  unfolding thread_right
  thread_in b e =
      let t = each_of (thread_right_tests p b) e in
      record {
        offset = least 1023 t.0;
        fidelity = least 3 t.1.0;
        extra = least 1 t.1.1.0;
        slots = λ s l. slot_in_lem (b + 4 + 6 * s) (below_of (slot_right p (b + 4)) 8 t.1.1.1.0 s l);
      }

  settings_right_lem : SettingsIn p → settings_right p ≡ true
  unfolding settings_right
  settings_right_lem h =
      all_of (settings_right_tests p) (
        all_of (settings_tests (settings_of p)) (upto 13 h.format, (upto 1023 h.base, tt)),
        (lt-ltb (get_or p 1 0) 32 h.flags, (of_below (λ (t : ℕ). thread_right p (thread_start t)) 3 (λ t l. thread_right_lem (4 + 52 * t) (h.threads t l)), tt)),
      )

  settings_in : length p ≡ 160 → settings_right p ≡ true → SettingsIn p
  unfolding settings_right
  settings_in l e =
      let t = each_of (settings_right_tests p) e in
      let s = each_of (settings_tests (settings_of p)) t.0 in
      record {
        long = l;
        format = least 13 s.0;
        flags = ltb-true (get_or p 1 0) 32 t.1.0;
        base = least 1023 s.1.0;
        threads = λ k l. thread_in (4 + 52 * k) (below_of (λ (t : ℕ). thread_right p (thread_start t)) 3 t.1.1.0 k l);
      }

-- ---- what a kind is, whatever it carries

abbrev pub Acting : Result Kind Cause → Type 0
Acting (Ok kind.Settings) = ⊥
Acting (Ok (kind.Issue t w)) = Unit {0}
Acting (Ok (kind.HandOver file)) = Unit {0}
Acting (Ok (kind.Writes x)) = Unit {0}
Acting (Ok (kind.Prints o)) = ⊥
Acting (Err c) = ⊥

abbrev pub Printing : Result Kind Cause → Type 0
Printing (Ok kind.Settings) = ⊥
Printing (Ok (kind.Issue t w)) = ⊥
Printing (Ok (kind.HandOver file)) = ⊥
Printing (Ok (kind.Writes x)) = ⊥
Printing (Ok (kind.Prints o)) = Unit {0}
Printing (Err c) = ⊥

-- the arm that a test takes
taken : (P : Result Kind Cause → Type 0) (b : Bool) (x y : Result Kind Cause) → b ≡ true → P x → P (cond b x y)
taken P b x y e h = rw e h

passed : (P : Result Kind Cause → Type 0) (b : Bool) (x y : Result Kind Cause) → b ≡ false → P y → P (cond b x y)
passed P b x y e h = rw e h

rows_right : (w : Width) (first count n : ℕ) → RowsInside first count n (row_count w) → all (dst_rows_tests w (span first count) n) ≡ true
rows_right w first count n h =
    all_of (dst_rows_tests w (span first count) n) (le-leb _ _ h.some, (le-leb _ _ h.most, (le-leb _ _ h.inside, tt)))

rows_in : (w : Width) (rows : Span) (n : ℕ) → Each (dst_rows_tests w rows n) → RowsInside rows.first rows.count n (row_count w)
rows_in w rows n e = record { some = leb-true _ _ e.0; most = leb-true _ _ e.1.0; inside = leb-true _ _ e.1.1.0 }

register_right : (p : List ℕ) (n : ℕ) → RegisterNamed p n → all (register_tests (get_or p 0 0) (get_or p 1 0)) ≡ true
register_right p n h =
    all_of (register_tests (get_or p 0 0) (get_or p 1 0)) (upto 2 h.thread, (upto 63 h.register, tt))

register_in : (p : List ℕ) (n t r : ℕ) → length p ≡ n → t ≡ get_or p 0 0 → r ≡ get_or p 1 0 → Each (register_tests t r) → RegisterNamed p n
register_in p n t r l e f h =
    record { long = l; thread = omega (arith, ltb-true t thread_count h.0, e); register = omega (arith, ltb-true r thread_registers h.1.0, f) }

-- ---- load rows

module _ (w : Width) (p : List ℕ) where
  -- the count that the length gives
  counted : (n : ℕ) → length p ≡ 3 + 64 * n → (load_span p).count ≡ n
  counted n l = rw l (omega arith)

  long_right : (n : ℕ) → length p ≡ 3 + 64 * n → 1 ≤ n → n ≤ 64 → all (load_length_tests p) ≡ true
  long_right n l a b =
      let c = counted n l in
      let a' : 1 ≤ (load_span p).count = rw c a in
      let b' : (load_span p).count ≤ 64 = rw c b in
      let l' : length p ≡ 3 + 64 * (load_span p).count = rw c l in
      all_of (load_length_tests p) (le-leb _ _ a', (le-leb _ _ b', (eq-eqb _ _ l', tt)))

  values_right : (n limit : ℕ) → ValuesIn p n limit → below (value_right limit p) (16 * n) ≡ true
  values_right n limit h = of_below (value_right limit p) (16 * n) (λ i l. lt-ltb _ limit (h i l))

  values_in : (n limit : ℕ) → below (value_right limit p) (16 * n) ≡ true → ValuesIn p n limit
  values_in n limit e i l = ltb-true _ limit (below_of (value_right limit p) (16 * n) e i l)

  dst_right : (v : Width) (n : ℕ) → (v ≡ Bits16 → ValuesIn p n (2 ^ 16)) → dst_values v p (16 * n) ≡ true
  dst_right Bits32 n h = refl
  dst_right Bits16 n h = values_right n (2 ^ 16) (h refl)

  dst_in : (v : Width) (n : ℕ) → dst_values v p (16 * n) ≡ true → v ≡ Bits16 → ValuesIn p n (2 ^ 16)
  dst_in Bits32 n e q = absurd (let z : ◌≡◌ {A = ℕ} 0 1 = cc in omega arith)
  dst_in Bits16 n e q = values_in n (2 ^ 16) e

  load_src_lem : (file : File) (n : ℕ) → length p ≡ 3 + 64 * n → RowsInside (le2 p 1) n 64 64 → ValuesIn p n (2 ^ 19) → Acting (load_src file (load_span p) p)
  unfolding load_src
  load_src_lem file n l r v =
      let c = counted n l in
      let i : le2 p 1 + (load_span p).count ≤ 64 = rw c r.inside in
      taken Acting (all (src_load_tests (load_span p) p)) _ _
      (all_of (src_load_tests (load_span p) p) (le-leb _ _ i, (rw c (values_right n (2 ^ 19) v), tt))) tt

  load_dst_lem : (n : ℕ) → length p ≡ 3 + 64 * n → RowsInside (le2 p 1) n 64 (row_count w) → (w ≡ Bits16 → ValuesIn p n (2 ^ 16)) → Acting (load_dst w (load_span p) p)
  unfolding load_dst
  load_dst_lem n l r v =
      let c = counted n l in
      let i : le2 p 1 + (load_span p).count ≤ row_count w = rw c r.inside in
      taken Acting (all (dst_load_tests w (load_span p) p)) _ _
      (all_of (dst_load_tests w (load_span p) p) (le-leb _ _ i, (rw c (dst_right w n v), tt))) tt

  load_file_lem : (n : ℕ) → length p ≡ 3 + 64 * n → FileIn w p n → Acting (load_file w (get_or p 0 0) (load_span p) p)
  unfolding load_file
  load_file_lem n l (shape.src f r v) =
      split (eqb (get_or p 0 0) 0) (λ e. taken Acting _ _ _ e (load_src_lem A n l r v))
      (λ e. passed Acting _ _ _ e
      (taken Acting (eqb (get_or p 0 0) 1) _ _ (one_of_two _ f (eqb-false (get_or p 0 0) 0 e)) (load_src_lem B n l r v)))
  load_file_lem n l (shape.dst f r v) =
      passed Acting (eqb (get_or p 0 0) 0) _ _ (ne_eqb (get_or p 0 0) 0 (λ e. omega (arith, f, e)))
      (passed Acting (eqb (get_or p 0 0) 1) _ _ (ne_eqb (get_or p 0 0) 1 (λ e. omega (arith, f, e)))
      (taken Acting (eqb (get_or p 0 0) 2) _ _ (eq-eqb _ 2 f) (load_dst_lem n l r v)))

  some_rows : (n : ℕ) → FileIn w p n → (1 ≤ n) × (n ≤ 64)
  some_rows n (shape.src f r v) = (r.some, r.most)
  some_rows n (shape.dst f r v) = (r.some, r.most)

  load_acts : LoadRowsIn w p → Acting (load_rows w p)
  unfolding load_rows
  load_acts h =
      let n = h.count in
      let s = some_rows n h.file in
      taken Acting (all (load_length_tests p)) _ _ (long_right n h.long s.0 s.1) (load_file_lem n h.long h.file)

-- ---- the other readers

module _ (w : Width) (p : List ℕ) where
  register_acts : RegisterNamed p 6 → Acting (load_register p)
  unfolding load_register
  register_acts h = taken Acting _ _ _ (eq-eqb _ 6 h.long) (taken Acting _ _ _ (register_right p 6 h) tt)

  hand_acts : HandOverIn p → Acting (hand_over_file p)
  unfolding hand_over_file
  hand_acts h =
      taken Acting _ _ _ (eq-eqb _ 1 h.long)
      (split (eqb (get_or p 0 0) 0) (λ e. taken Acting _ _ _ e tt)
      (λ e. passed Acting _ _ _ e (taken Acting _ _ _ (one_of_two _ h.file (eqb-false (get_or p 0 0) 0 e)) tt)))

  issue_acts : IssueIn p → Acting (issue p)
  unfolding issue
  issue_acts h =
      taken Acting _ _ _ (eq-eqb _ 5 h.long) (taken Acting (all (ltb (get_or p 0 0) thread_count ∷ [])) _ _ (all_of (ltb (get_or p 0 0) thread_count ∷ []) (upto 2 h.thread, tt)) tt)

  zero_acts : ZeroRowsIn w p → Acting (zero_rows w p)
  unfolding zero_rows
  zero_acts h = taken Acting _ _ _ (eq-eqb _ 4 h.long) (taken Acting _ _ _ (rows_right w _ _ _ h.rows) tt)

  rows_prints : OutputRowsIn w p → Printing (output_rows w p)
  unfolding output_rows
  rows_prints h = taken Printing _ _ _ (eq-eqb _ 3 h.long) (taken Printing _ _ _ (rows_right w _ _ _ h.rows) tt)

  register_prints : RegisterNamed p 2 → Printing (output_register p)
  unfolding output_register
  register_prints h = taken Printing _ _ _ (eq-eqb _ 2 h.long) (taken Printing _ _ _ (register_right p 2 h) tt)

-- ---- a field that is right is read

module _ (w : Width) (f : FieldBytes) where
  -- what its reader finds
  abbrev pub found : Result Kind Cause
  found = read_kind w f.tag f.payload

  pub settles_kind : Settles f → found ≡ Ok kind.Settings
  unfolding read_kind settings_kind
  settles_kind h = simp (h.tag, eq-eqb (length f.payload) 160 h.right.long, settings_right_lem f.payload h.right)

  pub acts_kind : Acts w f → Acting found
  unfolding read_kind
  acts_kind (shape.load_rows e h) = rw e (load_acts w f.payload h)
  acts_kind (shape.load_register e h) = rw e (register_acts w f.payload h)
  acts_kind (shape.hand_over e h) = rw e (hand_acts w f.payload h)
  acts_kind (shape.issue e h) = rw e (issue_acts w f.payload h)
  acts_kind (shape.zero_rows e h) = rw e (zero_acts w f.payload h)

  pub prints_kind : Prints w f → Printing found
  unfolding read_kind
  prints_kind (shape.rows e h) = rw e (rows_prints w f.payload h)
  prints_kind (shape.register e h) = rw e (register_prints w f.payload h)

  -- ---- and one that is read is right

  pub kind_settles : found ≡ Ok kind.Settings → Settles f
  kind_settles e =
      let s = subst (Says w f.tag f.payload) e (says w f.tag f.payload) in
      record { tag = s.0; right = settings_in f.payload s.1 s.2 }

  load_count : (p : List ℕ) → Each (load_length_tests p) → length p ≡ 3 + 64 * (load_span p).count
  load_count p l = eqb-true _ _ l.1.1.0

  load_rows_in : (p : List ℕ) (m : ℕ) → Each (load_length_tests p) → leb ((load_span p).first + (load_span p).count) m ≡ true → RowsInside (le2 p 1) (load_span p).count 64 m
  load_rows_in p m l i = record { some = leb-true _ _ l.0; most = leb-true _ _ l.1.0; inside = leb-true _ _ i }

  file_number_lem : (file : File) → file_number file ≤ 1
  file_number_lem A = omega arith
  file_number_lem B = omega arith

  write_acts : (x : Write) → WriteSays w f.tag f.payload x → Acts w f
  write_acts (write.LoadSrc file rows) s =
      let p = f.payload in
      let t : Each (src_load_tests (load_span p) p) = rw s.1 at s.4 in
      shape.load_rows s.0
      (record {
        count = (load_span p).count;
        long = load_count p s.3;
        file = shape.src (omega (arith, file_number_lem file, s.2)) (load_rows_in p 64 s.3 t.0) (values_in w p _ (2 ^ 19) t.1.0);
      })
  write_acts (write.LoadDst v rows) s =
      let p = f.payload in
      let t : Each (dst_load_tests w (load_span p) p) = rw (s.1, s.5) at s.4 in
      shape.load_rows s.0
      (record {
        count = (load_span p).count;
        long = load_count p s.3;
        file = shape.dst s.2 (load_rows_in p (row_count w) s.3 t.0) (dst_in w p w _ t.1.0);
      })
  write_acts (write.LoadRegister t r) s = shape.load_register s.0 (register_in f.payload 6 t r (eqb-true _ 6 s.3) s.1 s.2 s.4)
  write_acts (write.ZeroRows v rows) s =
      let p = f.payload in
      let t : Each (dst_rows_tests w (span (le2 p 0) (le2 p 2)) (row_count w)) = rw (s.1, s.4) at s.0 in
      shape.zero_rows s.2 (record { long = s.3; rows = rows_in w _ _ t })

  pub kind_acts : Acting found → Acts w f
  kind_acts a = go found (says w f.tag f.payload) a
    where
      go : (k : Result Kind Cause) → Says w f.tag f.payload k → Acting k → Acts w f
      go (Ok kind.Settings) s a = absurd a
      go (Ok (kind.Issue t x)) s a = shape.issue s.1 (record { long = s.2; thread = omega (arith, ltb-true t thread_count s.0, s.3) })
      go (Ok (kind.HandOver file)) s a = shape.hand_over s.0 (record { long = s.1; file = omega (arith, file_number_lem file, s.2) })
      go (Ok (kind.Writes x)) s a = write_acts x s
      go (Ok (kind.Prints o)) s a = absurd a
      go (Err c) s a = absurd a

  output_prints : (o : Output) → OutputSays w f.tag f.payload o → Prints w f
  output_prints (output.Rows v rows) s =
      let p = f.payload in
      let t : Each (dst_rows_tests w (span (le2 p 0) (get_or p 2 0)) most_rows) = rw (s.1, s.4) at s.0 in
      shape.rows s.2 (record { long = s.3; rows = rows_in w _ _ t })
  output_prints (output.Register t r) s = shape.register s.1 (register_in f.payload 2 t r s.2 s.3 s.4 s.0)

  pub kind_prints : Printing found → Prints w f
  kind_prints a = go found (says w f.tag f.payload) a
    where
      go : (k : Result Kind Cause) → Says w f.tag f.payload k → Printing k → Prints w f
      go (Ok kind.Settings) s a = absurd a
      go (Ok (kind.Issue t x)) s a = absurd a
      go (Ok (kind.HandOver file)) s a = absurd a
      go (Ok (kind.Writes x)) s a = absurd a
      go (Ok (kind.Prints o)) s a = output_prints o s
      go (Err c) s a = absurd a
