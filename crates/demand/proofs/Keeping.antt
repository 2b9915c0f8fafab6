-- What a clear leaves of a Src file's banks, marks and numbers, by opcodes and bits; and along a job with the file's switch on, a bank stays the matrix
-- unit's and its rows set. One proof for the two files. Assumes nothing.
use mathlib.Core.Path.{◌≡◌, refl, sym, ap, ◌∙◌}
use mathlib.Core.Bool.{Bool, true, false, cond, not, ◌&&◌, false≢true}
use mathlib.Core.List.{List, [], ◌∷◌}
use mathlib.Core.Logic.{◌≢◌}
use Prim.Native.Nat.{ℕ, zero, suc, ◌+◌, ◌*◌, ◌/◌, ◌%◌, ◌^◌, ◌≤◌, ◌<◌}
use native.Mathlib.Omega.{arith}
use lib.Dec.{eqb, ltb}
use lib.ListN.{length, get_or}
use borrow.Author.Tests.{ltb-true, ltb-false}
use Rattle.std.specs.Prelude.{Result, Ok, Err, Some, ⊤}
use Rattle.cells.specs.declared.layout.File.{File}
use Rattle.cells.specs.declared.layout.File.TheVariants.{A, B}
use Rattle.cells.specs.declared.layout.Span.{Span}
use Rattle.cells.specs.Layout.{no_span, bank_span}
use Rattle.cells.specs.Cells.{in_span, over_span}
use Rattle.cells.specs.State.{State, src_file}
use Rattle.cells.specs.Tests.{one_of}
use Rattle.cells.proofs.Cells.{split, both, over_out, over_in, over_past, over_true, over_between_none, between_true, between_in}
use Rattle.word.specs.Table.{table}
use Rattle.word.specs.Operands.{opcode_of, clear_of, operands_of}
use Rattle.word.specs.declared.Class.{Class}
use Rattle.word.specs.declared.Class.TheVariants as class
use Rattle.cells.specs.declared.layout.ByFile.{ByFile}
use Rattle.word.specs.declared.Operands.{Operands}
use Rattle.word.specs.declared.Refusal.{Refusal}
use Rattle.word.specs.declared.Refusal.TheVariants.{BankOwner}
use Rattle.word.proofs.Every.{◌and◌}
use Rattle.control.specs.declared.Banks.{Banks}
use Rattle.control.specs.declared.Control.{Control}
use Rattle.control.specs.Record.{start, owned_at, matrix_owns_next}
use Rattle.control.specs.Change.{cleared, cleared_if}
use Rattle.control.proofs.Kept.{kept_owner, handed_owner}
use Rattle.rules.specs.Vocabulary.{Sets, no_clear, no_sets}
use Rattle.rules.specs.Instructions.{meaning_of}
use Rattle.rules.specs.After.{acting, record_after, control_after}
use Rattle.rules.specs.Access.{given_back, sets_of, unsets_of, word_sets, word_unsets}
use Rattle.rules.proofs.AfterKeeps.{record_after_settings, banks_after}
use Rattle.step.specs.Effect.{effect_of, state_after}
use Rattle.step.specs.Step.{if_done, verdict_of, stepped_of, state_of}
use Rattle.job.specs.declared.Cause.{Cause}
use Rattle.job.specs.Fields.{job_width, field_at, fields_from, EachField}
use Rattle.job.specs.Settings.{settled}
use Rattle.job.specs.Shape.{shape_of}
use Rattle.job.specs.declared.Write.{Write}
use Rattle.job.specs.declared.Write.TheVariants.{LoadSrc, LoadDst, LoadRegister, ZeroRows}
use Rattle.job.specs.declared.Kind.{Kind}
use Rattle.job.specs.declared.Kind.TheVariants as kind
use Rattle.job.specs.declared.Field.{Field}
use Rattle.job.proofs.Shaped.{NotSettings}
use Rattle.walk.specs.FieldRecord.{banks_of, handed_over, field_control}
use Rattle.walk.proofs.RecordKept.{settings_stay}
use Rattle.run.specs.Perform.{control_on}
use Rattle.precheck.specs.Marks.{Marks, unset, src_marks, mark_src, mark_dst, mark_register, instruction_marks}
use Rattle.precheck.specs.Judging.{field_rules}
use Rattle.precheck.specs.Marking.{write_marks, field_marks}
use Rattle.demand.specs.Keeping.{keeps, switch_bit, switched_on, clearing, clears, banks, banks_left, marks_left, Clearing, ClearRule, Fills, load, hand_over, Later, KeptAlong}
use Rattle.demand.specs.WellShaped.{WellShaped}
use Rattle.demand.specs.Breaks.{broken_rule}
use Rattle.demand.specs.Meetings.{Meeting, meeting_at}
use Rattle.demand.specs.Demand.{meeting}
use Rattle.demand.proofs.MarksStay.{In}
use Rattle.demand.proofs.Steps.{step_demand1}
use Rattle.demand.proofs.ByOpcode.{ByOpcodes, done_acts}
use Rattle.demand.proofs.Shapes.{well_right}
use Rattle.demand.proofs.Widths.{opening, first, settled_first, flags_first, settled_once}

-- ---- which words clear

abbrev clearer : Class → Bool
clearer class.Multiply = true
clearer class.Legacy = true
clearer class.SetCounters = true
clearer class.AddCounters = false
clearer class.ZeroSrc = false
clearer class.ShiftA = false
clearer class.ShiftB = false
clearer class.NoEffect = false
clearer class.Scalar = false

by_row_lem : ByOpcodes clearer clearing
unfolding table
by_row_lem =
    refl and refl and refl and refl and refl and refl and refl and refl and refl and refl and refl and refl and refl and refl and refl and refl and
    refl and refl and refl and refl and tt

by_class : (k : Class) (w : ℕ) → (meaning_of (operands_of k w)).clear ≡ cond (clearer k) (clear_of w) no_clear
by_class class.Multiply w = refl
by_class class.Legacy w = refl
by_class class.SetCounters w = refl
by_class class.AddCounters w = refl
by_class class.ZeroSrc w = refl
by_class class.ShiftA w = refl
by_class class.ShiftB w = refl
by_class class.NoEffect w = refl
by_class class.Scalar w = refl

-- the file's bit of the field
abbrev bit_of : File → ByFile Bool → Bool
bit_of A x = x.a
bit_of B x = x.b

bit_by_lem : (f : File) (b : Bool) (w : ℕ) → bit_of f (cond b (clear_of w) no_clear) ≡ (b && bit_of f (clear_of w))
bit_by_lem A true w = refl
bit_by_lem A false w = refl
bit_by_lem B true w = refl
bit_by_lem B false w = refl

word_bit_lem : (f : File) (w : ℕ) → (one_of (opcode_of w) clearing && bit_of f (clear_of w)) ≡ clears f w
word_bit_lem A w = refl
word_bit_lem B w = refl

-- those classes set no row and leave the Src files
sets_none : (k : Class) (c : Control) (t w : ℕ) → clearer k ≡ true → (meaning_of (operands_of k w)).sets c t ≡ no_sets
sets_none class.Multiply c t w h = refl
sets_none class.Legacy c t w h = refl
sets_none class.SetCounters c t w h = refl
sets_none class.AddCounters c t w h = absurd (false≢true h)
sets_none class.ZeroSrc c t w h = absurd (false≢true h)
sets_none class.ShiftA c t w h = absurd (false≢true h)
sets_none class.ShiftB c t w h = absurd (false≢true h)
sets_none class.NoEffect c t w h = refl
sets_none class.Scalar c t w h = absurd (false≢true h)

rows_stay : (k : Class) (f : File) (c : Control) (t w : ℕ) (s : State) → clearer k ≡ true → src_file (effect_of c t (operands_of k w) s) f ≡ src_file s f
unfolding effect_of
rows_stay class.Multiply A c t w s h = refl
rows_stay class.Multiply B c t w s h = refl
rows_stay class.Legacy f c t w s h = refl
rows_stay class.SetCounters f c t w s h = refl
rows_stay class.AddCounters f c t w s h = refl
rows_stay class.ZeroSrc f c t w s h = absurd (false≢true h)
rows_stay class.ShiftA f c t w s h = absurd (false≢true h)
rows_stay class.ShiftB f c t w s h = absurd (false≢true h)
rows_stay class.NoEffect f c t w s h = refl
rows_stay class.Scalar f c t w s h = absurd (false≢true h)

-- ---- of a file

banks_of_lem : (f : File) (c : Control) (t : ℕ) (x : Operands)
    → banks_of (record_after c t x) f ≡ cleared_if (banks_of c f) (bit_of f (meaning_of x).clear) (keeps f c.settings)
banks_of_lem A c t x = (banks_after c t x).0
banks_of_lem B c t x = (banks_after c t x).1

-- the marks of the file: what is set, and then what the clear unsets
abbrev span_of : File → Sets → Span
span_of A x = x.a
span_of B x = x.b

marks_of : (f : File) (c : Control) (m : Marks) (t w : ℕ)
    → marks_left f c m t w
    ≡ over_span (given_back (banks_of c f) (bit_of f (meaning_of (acting w)).clear) (keeps f c.settings)) false (over_span (span_of f (word_sets c t w)) true (src_marks m f))
unfolding field_marks instruction_marks word_unsets unsets_of
marks_of A c m t w = refl
marks_of B c m t w = refl

none_over : (v : Bool) (l : List Bool) → over_span no_span v l ≡ l
none_over v l = over_between_none (λ i. v) v l 0

and_not : (b : Bool) → (b && not true) ≡ false
and_not true = refl
and_not false = refl

unset_in : (x : Span) (l : List Bool) (i : ℕ) → in_span x i ≡ true → get_or (over_span x false l) i false ≡ false
unset_in x l i h =
    split (ltb i (length l)) (λ b. over_in (in_span x) (λ k. false) l i false h (ltb-true i (length l) b))
    (λ b. over_past (in_span x) (λ k. false) l i false (ltb-false i (length l) b))

-- the rows of a bank, and those of another
bank_in : (p r : ℕ) → r < 64 → in_span (bank_span p) (p * 64 + r) ≡ true
bank_in p r h = between_in (p * 64 + 0) (p * 64 + 0 + 64) (p * 64 + r) (omega arith) (omega arith)

bank_out : (p q r : ℕ) → p ≢ q → r < 64 → in_span (bank_span q) (p * 64 + r) ≡ false
bank_out p q r n h =
    split (in_span (bank_span q) (p * 64 + r))
    (λ e. absurd (let b = between_true (q * 64 + 0) (q * 64 + 0 + 64) (p * 64 + r) e in n (omega (arith, b.0, b.1))))
    (λ e. e)

-- ---- a single step

module _ (f : File) (c : Control) (t w : ℕ) (s : State) where
  step_banks : verdict_of c t w s ≡ Ok tt → banks_left f c t w s ≡ cleared_if (banks_of c f) (bit_of f (meaning_of (acting w)).clear) (keeps f c.settings)
  unfolding stepped_of control_after
  step_banks e = ap (λ (v : Result ⊤ Refusal). banks_of (if_done v (control_after c t w) c) f) e ∙ banks_of_lem f c t (acting w)

  step_refused : (r : Refusal) → verdict_of c t w s ≡ Err r → (stepped_of c t w s).control ≡ c
  step_refused = (step_demand1 c t w s).record_kept

  bit_is : verdict_of c t w s ≡ Ok tt → bit_of f (meaning_of (acting w)).clear ≡ clears f w
  bit_is e =
      let a = done_acts c t w s e in
      ap (λ (x : Operands). bit_of f (meaning_of x).clear) a.operands
      ∙ ap (bit_of f) (by_class a.class w)
      ∙ bit_by_lem f (clearer a.class) w
      ∙ ap (λ (b : Bool). b && bit_of f (clear_of w)) (a.told clearer clearing by_row_lem)
      ∙ word_bit_lem f w

  banks_done : verdict_of c t w s ≡ Ok tt → banks_left f c t w s ≡ cleared_if (banks_of c f) (clears f w) (keeps f c.settings)
  banks_done e = step_banks e ∙ ap (λ (b : Bool). cleared_if (banks_of c f) b (keeps f c.settings)) (bit_is e)

  -- one that clears
  module _ (h : clears f w ≡ true) (e : verdict_of c t w s ≡ Ok tt) where
    moved : (keep : Bool) → keeps f c.settings ≡ keep → (b : Banks) → banks_of c f ≡ b → banks_left f c t w s ≡ cleared_if b true keep
    moved keep k b eb = banks_done e ∙ (λ i. cleared_if (eb i) (h i) (k i))

    is_clearer : clearer (done_acts c t w s e).class ≡ true
    is_clearer = (done_acts c t w s e).told clearer clearing by_row_lem ∙ (both (one_of (opcode_of w) clearing) _ h).0

    set_none : span_of f (word_sets c t w) ≡ no_span
    unfolding word_sets sets_of
    set_none =
        let a = done_acts c t w s e in
        ap (λ (x : Operands). span_of f ((meaning_of x).sets c t)) a.operands ∙ ap (span_of f) (sets_none a.class c t w is_clearer) ∙ none_of f
      where
        none_of : (f : File) → span_of f no_sets ≡ no_span
        none_of A = refl
        none_of B = refl

    marks_by : (m : Marks) (keep : Bool) → keeps f c.settings ≡ keep → marks_left f c m t w ≡ over_span (given_back (banks_of c f) true keep) false (src_marks m f)
    marks_by m keep k =
        marks_of f c m t w
        ∙ (λ i. over_span (given_back (banks_of c f) ((bit_is e ∙ h) i) (k i)) false (over_span (set_none i) true (src_marks m f)))
        ∙ ap (over_span (given_back (banks_of c f) true keep) false) (none_over true (src_marks m f))

    rows_left : src_file (state_of c t w s) f ≡ src_file s f
    unfolding state_of state_after
    rows_left =
        let a = done_acts c t w s e in
        ap (λ (v : Result ⊤ Refusal). src_file (if_done v (state_after c t w s) s) f) e
        ∙ ap (λ (x : Operands). src_file (effect_of c t x s) f) a.operands
        ∙ rows_stay a.class f c t w s is_clearer

    clearing_is : (m : Marks) → Clearing f c t w s m
    unfolding cleared
    clearing_is m =
        let same : keeps f c.settings ≡ true → marks_left f c m t w ≡ src_marks m f = λ k. marks_by m true k ∙ none_over false (src_marks m f) in
        record {
          kept_0 = λ k u o p b. moved true k (banks 0 u o p) b;
          kept_1 = λ k u o p b. moved true k (banks 1 u o p) b;
          given_0 = λ k u o p b. moved false k (banks 0 u o p) b;
          given_1 = λ k u o p b. moved false k (banks 1 u o p) b;
          marks_kept = same;
          marks_given = λ k r l.
              ap (λ (x : List Bool). get_or x ((banks_of c f).matrix * 64 + r) false) (marks_by m false k) ∙ unset_in _ (src_marks m f) _ (bank_in (banks_of c f).matrix r l);
          marks_other = λ p r n l.
              split (keeps f c.settings) (λ k. ap (λ (x : List Bool). get_or x (p * 64 + r) false) (same k))
              (λ k. ap (λ (x : List Bool). get_or x (p * 64 + r) false) (marks_by m false k) ∙ over_out _ _ (src_marks m f) (p * 64 + r) false (bank_out p (banks_of c f).matrix r n l));
          rows = rows_left;
        }

  -- any other leaves the banks, and all leave the settings
  others : clears f w ≡ false → (v : Result ⊤ Refusal) → verdict_of c t w s ≡ v → banks_left f c t w s ≡ banks_of c f
  others h (Ok u) e = banks_done e ∙ ap (λ (b : Bool). cleared_if (banks_of c f) b (keeps f c.settings)) h
  others h (Err r) e = ap (λ (c : Control). banks_of c f) (step_refused r e)

  -- where no bank is given back no row is unset
  none_unset : (bit_of f (meaning_of (acting w)).clear && not (keeps f c.settings)) ≡ false → (m : Marks) → In (src_marks m f) (marks_left f c m t w)
  none_unset n m r h =
      let l = over_span (span_of f (word_sets c t w)) true (src_marks m f) in
      let None : marks_left f c m t w ≡ l =
      marks_of f c m t w
      ∙ ap (λ (on : Bool). over_span (cond on (bank_span (banks_of c f).matrix) no_span) false l) n
      ∙ none_over false l in
      ap (λ (x : List Bool). get_or x r false) None ∙ over_true _ (src_marks m f) r h

  settings_left : (v : Result ⊤ Refusal) → verdict_of c t w s ≡ v → (stepped_of c t w s).control.settings ≡ c.settings
  unfolding stepped_of control_after
  settings_left (Ok u) e = ap (λ (v : Result ⊤ Refusal). (if_done v (control_after c t w) c).settings) e ∙ record_after_settings c t (acting w)
  settings_left (Err r) e = ap (λ (c : Control). c.settings) (step_refused r e)

  pub clear_rule : (m : Marks) → ClearRule f c t w s m
  clear_rule m =
      record {
        cleared = λ h e. clearing_is h e m;
        stays = λ h. others h (verdict_of c t w s) refl;
        set_stays = λ h e. none_unset (ap (λ (on : Bool). on && not (keeps f c.settings)) (bit_is e ∙ h)) m;
        switches = settings_left (verdict_of c t w s) refl;
      }

  -- with the switch on, whatever the word
  step_owned : keeps f c.settings ≡ true → (p : ℕ) → (v : Result ⊤ Refusal) → verdict_of c t w s ≡ v → owned_at (banks_left f c t w s) p ≡ owned_at (banks_of c f) p
  step_owned k p (Ok u) e =
      let b = bit_of f (meaning_of (acting w)).clear in
      ap (λ (x : Banks). owned_at x p) (step_banks e ∙ ap (cleared_if (banks_of c f) b) k) ∙ kept_owner (banks_of c f) b p
  step_owned k p (Err r) e = ap (λ (c : Control). owned_at (banks_of c f) p) (step_refused r e)

  step_set : keeps f c.settings ≡ true → (m : Marks) → In (src_marks m f) (marks_left f c m t w)
  step_set k =
      let b = bit_of f (meaning_of (acting w)).clear in
      none_unset (ap (λ (keep : Bool). b && not keep) k ∙ and_not b)

-- ---- a field of a job

module _ (f : File) where
  -- from the record c and the marks m to d and n, banks stay the matrix unit's and rows set
  pub record Holds (c : Control) (m : Marks) (d : Control) (n : Marks) : Type 0 where
    pub owned : (p : ℕ) → owned_at (banks_of c f) p ≡ true → owned_at (banks_of d f) p ≡ true
    pub set : In (src_marks m f) (src_marks n f)

hand_owned : (f g : File) (c : Control) (p : ℕ) → owned_at (banks_of c f) p ≡ true → owned_at (banks_of (handed_over c g) f) p ≡ true
hand_owned A A c p h = handed_owner c.a p h
hand_owned A B c p h = h
hand_owned B A c p h = h
hand_owned B B c p h = handed_owner c.b p h

write_set : (f : File) (c : Control) (m : Marks) (x : Write) → In (src_marks m f) (src_marks (write_marks c m x) f)
unfolding mark_src mark_dst mark_register
write_set A c m (LoadSrc A rows) = over_true _ m.srca
write_set A c m (LoadSrc B rows) = λ r h. h
write_set A c m (LoadDst w rows) = λ r h. h
write_set A c m (LoadRegister t q) = λ r h. h
write_set A c m (ZeroRows w rows) = λ r h. h
write_set B c m (LoadSrc A rows) = λ r h. h
write_set B c m (LoadSrc B rows) = over_true _ m.srcb
write_set B c m (LoadDst w rows) = λ r h. h
write_set B c m (LoadRegister t q) = λ r h. h
write_set B c m (ZeroRows w rows) = λ r h. h

module _ (f : File) (job : List ℕ) where
  field_holds : (c : Control) (m : Marks) (s : State) (place : ℕ) (k : Result Kind Cause) → (k ≡ Ok kind.Settings → ⊥) → keeps f c.settings ≡ true
      → Holds f c m (control_on job c place k s) (field_marks c m k)
  unfolding control_on field_control field_marks
  field_holds c m s place (Ok kind.Settings) n k = absurd (n refl)
  field_holds c m s place (Ok (kind.Issue t w)) n k =
      record { owned = λ p h. step_owned f c t w s k p (verdict_of c t w s) refl ∙ h; set = step_set f c t w s k m }
  field_holds c m s place (Ok (kind.HandOver g)) n k = record { owned = hand_owned f g c; set = λ r h. h }
  field_holds c m s place (Ok (kind.Writes x)) n k = record { owned = λ p h. h; set = write_set f c m x }
  field_holds c m s place (Ok (kind.Prints o)) n k = record { owned = λ p h. h; set = λ r h. h }
  field_holds c m s place (Err x) n k = record { owned = λ p h. h; set = λ r h. h }

  -- the switch stays on
  settings_on : (c : Control) (s : State) (place : ℕ) (k : Result Kind Cause) → (k ≡ Ok kind.Settings → ⊥) → (control_on job c place k s).settings ≡ c.settings
  unfolding control_on
  settings_on c s place (Ok kind.Settings) n = absurd (n refl)
  settings_on c s place (Ok (kind.Issue t w)) n = settings_left f c t w s (verdict_of c t w s) refl
  settings_on c s place (Ok (kind.HandOver g)) n = settings_stay job c place (Ok (kind.HandOver g)) n
  settings_on c s place (Ok (kind.Writes x)) n = settings_stay job c place (Ok (kind.Writes x)) n
  settings_on c s place (Ok (kind.Prints o)) n = settings_stay job c place (Ok (kind.Prints o)) n
  settings_on c s place (Err x) n = settings_stay job c place (Err x) n

  -- ---- the fields after the settings

  later : (fs : List Field) (c : Control) (m : Marks) (s : State) (j : ℕ) (y : Meeting) → EachField NotSettings fs → meeting_at job fs c m s j ≡ Some y
      → keeps f c.settings ≡ true → Holds f c m y.control y.marks
  unfolding meeting_at
  later [] c m s j y o e k = absurd (let z : ◌≡◌ {A = ℕ} 0 1 = cc in omega arith)
  later (g ∷ fs) c m s zero y o e k =
      let q : record { field = g; control = c; marks = m; state = s } ≡ y = cc in
      rw (← q) (record { owned = λ p h. h; set = λ r h. h })
  later (g ∷ fs) c m s (suc j) y o e k =
      let a = field_holds c m s g.place g.kind o.0 k in
      let b = later fs _ _ _ j y o.1 e (ap (keeps f) (settings_on c s g.place g.kind o.0) ∙ k) in
      record { owned = λ p h. b.owned p (a.owned p h); set = λ r h. b.set r (a.set r h) }

  -- each meets the settings of the first
  settings_met : (fs : List Field) (c : Control) (m : Marks) (s : State) (k : ℕ) (x : Meeting) → EachField NotSettings fs → meeting_at job fs c m s k ≡ Some x
      → x.control.settings ≡ c.settings
  unfolding meeting_at
  settings_met [] c m s k x o e = absurd (let z : ◌≡◌ {A = ℕ} 0 1 = cc in omega arith)
  settings_met (g ∷ fs) c m s zero x o e =
      let q : record { field = g; control = c; marks = m; state = s } ≡ x = cc in
      ap (λ (x : Meeting). x.control.settings) (sym q)
  settings_met (g ∷ fs) c m s (suc k) x o e = settings_met fs _ _ _ k x o.1 e ∙ settings_on c s g.place g.kind o.0

  from : (fs : List Field) (c : Control) (m : Marks) (s : State) (i j : ℕ) (x y : Meeting) → EachField NotSettings fs → i ≤ j
      → meeting_at job fs c m s i ≡ Some x → meeting_at job fs c m s j ≡ Some y → keeps f x.control.settings ≡ true → Holds f x.control x.marks y.control y.marks
  unfolding meeting_at
  from [] c m s i j x y o l e d k = absurd (let z : ◌≡◌ {A = ℕ} 0 1 = cc in omega arith)
  from (g ∷ fs) c m s zero j x y o l e d k =
      let q : record { field = g; control = c; marks = m; state = s } ≡ x = cc in
      rw (← q) (later (g ∷ fs) c m s j y o d (rw (← q) at k))
  from (g ∷ fs) c m s (suc i) zero x y o l e d k = absurd (omega (arith, l))
  from (g ∷ fs) c m s (suc i) (suc j) x y o l e d k = from fs _ _ _ i j x y o.1 (omega (arith, l)) e d k

-- ---- a whole job

start_off : (f : File) → keeps f start.settings ≡ false
unfolding start
start_off A = refl
start_off B = refl

-- the switch as the settings' flags have it
flag_on : (f : File) (c : Control) (p : List ℕ) {n : ℕ} → get_or p 1 0 ≡ n → keeps f (settled c p).settings ≡ eqb (n / 2 ^ switch_bit f % 2) 1
unfolding settled
flag_on A c p e = ap (λ (n : ℕ). eqb (n / 2 ^ 3 % 2) 1) e
flag_on B c p e = ap (λ (n : ℕ). eqb (n / 2 ^ 4 % 2) 1) e

module _ (job : List ℕ) (s : State) (f : File) where
  -- the first field is the settings, which meets the switch off
  past_first : (g : Field) (fs : List Field) (m : Marks) → EachField NotSettings fs → (i j : ℕ) (x y : Meeting) → i ≤ j
      → meeting_at job (g ∷ fs) start m s i ≡ Some x → meeting_at job (g ∷ fs) start m s j ≡ Some y → keeps f x.control.settings ≡ true
      → Holds f x.control x.marks y.control y.marks
  unfolding meeting_at
  past_first g fs m o zero j x y l e d k =
      let q : record { field = g; control = start; marks = m; state = s } ≡ x = cc in
      absurd (false≢true (sym (start_off f) ∙ ap (λ (x : Meeting). keeps f x.control.settings) q ∙ k))
  past_first g fs m o (suc i) zero x y l e d k = absurd (omega (arith, l))
  past_first g fs m o (suc i) (suc j) x y l e d k = from f job fs _ _ _ i j x y o (omega (arith, l)) e d k

  opened : (r : shape_of job ≡ Ok tt) (i : ℕ)
      → meeting_at job (field_at job 0 ∷ fields_from job (field_at job 0).next) start (unset (job_width job)) s i ≡ meeting job s i
  opened r i = ap (λ (fs : List Field). meeting_at job fs start (unset (job_width job)) s i) (sym (opening job r))

  after_first : (g : Field) (fs : List Field) (m : Marks) → EachField NotSettings fs → (k : ℕ) (x : Meeting)
      → meeting_at job (g ∷ fs) start m s (suc k) ≡ Some x → x.control.settings ≡ (control_on job start g.place g.kind s).settings
  unfolding meeting_at
  after_first g fs m o k x e = settings_met f job fs _ _ _ k x o e

  -- the record that the settings make, in a run as before it
  made : (g : Field) → g.kind ≡ Ok kind.Settings → control_on job start g.place g.kind s ≡ field_control job start g.place g.kind
  unfolding control_on
  made g e = rw e

  switched : WellShaped job → (k : ℕ) (x : Meeting) → meeting job s (suc k) ≡ Some x → keeps f x.control.settings ≡ switched_on f job
  switched w k x e =
      let r = well_right job w in
      ap (keeps f) (after_first _ _ (unset (job_width job)) (settled_once job r) k x (opened r (suc k) ∙ e))
      ∙ ap (λ (c : Control). keeps f c.settings) (made (field_at job 0) (first job r) ∙ settled_first job r)
      ∙ flag_on f start _ (flags_first job r)

  along : WellShaped job → (x y : Meeting) → Later job s f x y → Holds f x.control x.marks y.control y.marks
  along w x y z =
      let r = well_right job w in
      past_first _ _ (unset (job_width job)) (settled_once job r) z.one z.other x y z.order
      (opened r z.one ∙ z.first) (opened r z.other ∙ z.then) z.keeping

  -- rule 6 of a field that fills the bank at the unpackers' pointer
  breaks_six : (c : Control) (m : Marks) (k : Result Kind Cause) → Fills f k → matrix_owns_next (banks_of c f) ≡ true → broken_rule BankOwner (field_rules c m k) ≡ true
  unfolding broken_rule field_rules
  breaks_six c m k (load rows e) h = ap (λ (x : Result Kind Cause). broken_rule BankOwner (field_rules c m x)) e ∙ rw h
  breaks_six c m k (hand_over e) h = ap (λ (x : Result Kind Cause). broken_rule BankOwner (field_rules c m x)) e ∙ rw h

  pub kept_along : KeptAlong job s f
  kept_along =
      record {
        switch = switched;
        owned = λ w x y z. (along w x y z).owned;
        set = λ w x y z. (along w x y z).set;
        six = λ w x y z k h. breaks_six y.control y.marks y.field.kind k ((along w x y z).owned (banks_of y.control f).unpack h);
      }
