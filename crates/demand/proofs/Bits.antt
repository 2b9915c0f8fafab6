-- Refusal 3 has the lowest offending bit of a word, from the word reader up to the pre-check. Assumes nothing.
use mathlib.Core.Path.{◌≡◌, refl, sym, ap, ◌∙◌, subst}
use mathlib.Core.Bool.{Bool, true, false, not, and-false, or-false, false≢true}
use mathlib.Core.List.{List, [], ◌∷◌}
use mathlib.Core.Logic.{◌⊎◌, inl, inr, ◌≢◌, ⊎_elim}
use Prim.Native.Nat.{ℕ, ◌+◌, ◌*◌, ◌/◌, ◌%◌, ◌^◌, ◌<◌}
use native.Mathlib.Omega.{arith}
use borrow.Author.Tests.{eqb-true, eqb-false, eq-eqb, ne_eqb, le-leb, lt-ltb}
use lib.Dec.{eqb}
use lib.ListN.{length, get_or, drop, length-take}
use lib.Seq.{get_or-take, get_or-drop}
use Rattle.std.specs.Prelude.{Ok, ⊤, Result, Err, Option, None, Some}
use Rattle.cells.specs.Cells.{between}
use Rattle.cells.proofs.Cells.{split, between_true}
use Rattle.word.specs.Bits.{Range, bit, in_ranges, lowest_below}
use Rattle.word.specs.Table.{Row, table, lookup}
use Rattle.word.specs.Operands.{opcode_of}
use Rattle.word.specs.Word.{row_of, unknown_in, stray_at, stray_in, offending_in, unknown_opcode, unnamed_bit, offending_bit}
use Rattle.word.specs.Refusal.{number_of, bit_of}
use Rattle.word.specs.Fields.{fields, refused_by, answer_in, word_answer}
use Rattle.word.specs.declared.Refusal.{Refusal}
use Rattle.word.specs.declared.Refusal.TheVariants as refusal
use Rattle.word.proofs.Every.{Every, ◌and◌}
use Rattle.word.proofs.Lowest.{lowest_first, lowest_at, some_at, lowest_once}
use Rattle.word.proofs.Rule.{found_opcode}
use Rattle.word.proofs.Numbers.{HasBit, has_bit}
use Rattle.word.proofs.Numbers as numbers
use Rattle.control.specs.declared.Control.{Control}
use Rattle.control.specs.Record.{start}
use Rattle.rules.specs.Rules.{rules, operand_rules, lowest, judgement}
use Rattle.rules.proofs.Reading.{WordBit}
use Rattle.job.specs.Bytes.{le2}
use Rattle.job.specs.Fields.{payload_at, job_width, field_at, fields_from}
use Rattle.job.specs.Shape.{shape_of}
use Rattle.job.specs.declared.WrongAt.{WrongAt}
use Rattle.job.specs.declared.Kind.TheVariants as kind
use Rattle.job.specs.declared.Field.{Field}
use Rattle.job.proofs.Says.{Says}
use Rattle.job.proofs.Shaped.{Sound, sound_at, each_field}
use Rattle.precheck.specs.Marks.{Marks, unset}
use Rattle.precheck.specs.Judging.{field_rules}
use Rattle.precheck.specs.Check.{precheck_of}
use Rattle.precheck.proofs.Checking.{check_has, precheck_right, precheck_wrong}
use Rattle.precheck.proofs.FieldBits.{field_bit}
use Rattle.demand.specs.Breaks.{broken_rule}
use Rattle.demand.specs.Offending.{Listed, Names, RowFor, LowestOffending, BitTold, three, other, WordTold, unknown, offending, WordBits, RuleBits}
use Rattle.demand.specs.Demand.{word_in}
use Rattle.word.specs.Refusal.{refused_at}
use Rattle.word.proofs.Passing.{same_refused}

pub differ : {A : Type 0} → ◌≡◌ {A = ℕ} 0 1 → A
differ z = absurd (omega arith)

-- ---- a bit that is 1 and not named

names : (rs : List Range) (i : ℕ) → in_ranges rs i ≡ true → Names rs i
names [] i e = absurd (false≢true e)
names (x ∷ rs) i e =
    split (between x.lo (x.hi + 1) i) (λ t. let b = between_true x.lo (x.hi + 1) i t in inl (b.0, omega (arith, b.1))) (λ t. inr (names rs i (rw t at e)))

named : (rs : List Range) (i : ℕ) → Names rs i → in_ranges rs i ≡ true
unfolding between
named [] i h = absurd h
named (x ∷ rs) i h =
    split (between x.lo (x.hi + 1) i) (λ t. rw t)
    (λ t. ⊎_elim (λ b. absurd (false≢true (sym t ∙ rw (le-leb x.lo i b.0, lt-ltb i (x.hi + 1) (omega (arith, b.1)))))) (λ n. rw t (named rs i n)) h)

module _ (rs : List Range) (w i : ℕ) where
  stray_on : stray_at rs w i ≡ true → (w / 2 ^ i % 2 ≡ 1) × (Names rs i → ⊥)
  stray_on e =
      split (bit w i)
      (λ t. (eqb-true (w / 2 ^ i % 2) 1 t, λ n. let e' : not (in_ranges rs i) ≡ true = rw t at e in false≢true (sym (ap not (named rs i n)) ∙ e')))
      (λ t. absurd (false≢true (rw t at e)))

  stray_off : stray_at rs w i ≡ false → (w / 2 ^ i % 2 ≡ 0) ⊎ Names rs i
  stray_off e =
      split (bit w i)
      (λ t. inr (names rs i (not_off (in_ranges rs i) (rw t at e))))
      (λ t. inl (let h = eqb-false (w / 2 ^ i % 2) 1 t in omega (arith, h)))
    where
      not_off : (b : Bool) → not b ≡ false → b ≡ true
      not_off true h = refl
      not_off false h = sym h

  on_stray : w / 2 ^ i % 2 ≡ 1 → (Names rs i → ⊥) → stray_at rs w i ≡ true
  on_stray o n = rw (eq-eqb (w / 2 ^ i % 2) 1 o) (split (in_ranges rs i) (λ t. absurd (n (names rs i t))) (λ t. rw t))

  off_stray : (w / 2 ^ i % 2 ≡ 0) ⊎ Names rs i → stray_at rs w i ≡ false
  off_stray h =
      ⊎_elim (λ z. rw (ne_eqb (w / 2 ^ i % 2) 1 (λ o. omega (arith, z, o)))) (λ n. rw (named rs i n) (and-false (bit w i))) h

-- ---- the row of a word

listed : (rs : List Row) (op : ℕ) (r : Row) → lookup rs op ≡ Some r → Listed r rs
listed [] op r e = differ (cc)
listed (x ∷ rs) op r e =
    split (eqb x.opcode op) (λ t. let e' : Some x ≡ Some r = rw t at e in let q : x ≡ r = cc in inl (sym q)) (λ t. inr (listed rs op r (rw t at e)))

listed_has : (P : Row → Type 0) (rs : List Row) → Every P rs → (r : Row) → Listed r rs → P r
listed_has P [] h r l = absurd l
listed_has P (x ∷ rs) h r l = ⊎_elim (λ q. subst P (sym q) h.0) (λ l. listed_has P rs h.1 r l) l

-- each row is the one of its opcode
own_row : Every (λ r. lookup table r.opcode ≡ Some r) table
unfolding table
own_row =
    refl and refl and refl and refl and refl and refl and refl and refl and refl and refl
    and refl and refl and refl and refl and refl and refl and refl and refl and refl and refl and tt

module _ (w : ℕ) (r : Row) where
  row_for : row_of w ≡ Some r → RowFor w r
  row_for e = record { listed = listed table (opcode_of w) r e; opcode = found_opcode table (opcode_of w) r e }

  for_row : RowFor w r → row_of w ≡ Some r
  for_row h = ap (lookup table) (sym h.opcode) ∙ listed_has (λ r. lookup table r.opcode ≡ Some r) table own_row r h.listed

-- ---- the lowest offending bit

lowest_in : (w : ℕ) (r : Row) → row_of w ≡ Some r → stray_in (Some r) w ≡ true → LowestOffending w (offending_in (Some r) w)
lowest_in w r q e =
    let rs = r.named in
    let f = stray_at rs w in
    let b = lowest_below f 24 in
    let at = lowest_at f 24 e in
    let on = stray_on rs w b at.1 in
    record { row = r; for = row_for w r q; below = at.0; one = on.0; unnamed = on.1; lower = λ i l. stray_off rs w i (lowest_first f 24 i l) }

lowest_of : (w : ℕ) → unnamed_bit w ≡ true → LowestOffending w (offending_bit w)
unfolding unnamed_bit offending_bit
lowest_of w e = go (row_of w) refl e
  where
    go : (o : Option Row) → row_of w ≡ o → stray_in o w ≡ true → LowestOffending w (offending_in o w)
    go None q e = absurd (false≢true e)
    go (Some r) q e = lowest_in w r q e

-- and back
module _ (w b : ℕ) (h : LowestOffending w b) where
  stray_at_lem : stray_at h.row.named w b ≡ true
  stray_at_lem = on_stray h.row.named w b h.one h.unnamed

  is_stray : stray_in (Some h.row) w ≡ true
  is_stray = some_at (stray_at h.row.named w) 24 b h.below stray_at_lem

  is_lowest : offending_in (Some h.row) w ≡ b
  is_lowest = lowest_once (stray_at h.row.named w) 24 b h.below stray_at_lem (λ i l. off_stray h.row.named w i (h.lower i l))

-- ---- the word reader

-- a known opcode has a row, and back
known_row : (w : ℕ) → unknown_opcode w ≡ true → (r : Row) → RowFor w r → ⊥
unfolding unknown_opcode
known_row w e r h = false≢true (sym (ap unknown_in (for_row w r h)) ∙ e)

no_row : (w : ℕ) → ((r : Row) → RowFor w r → ⊥) → unknown_opcode w ≡ true
unfolding unknown_opcode
no_row w h = go (row_of w) refl
  where
    go : (o : Option Row) → row_of w ≡ o → unknown_in o ≡ true
    go None q = refl
    go (Some r) q = absurd (h r (row_for w r q))

pub word_bits : (w : ℕ) → WordBits w
unfolding word_answer unknown_opcode
word_bits w =
    record {
      told = λ n x e. told n x (row_of w) refl e;
      two = λ h. two (row_of w) (no_row w h);
      three = λ b h. rw (for_row w h.row h.for, is_stray w b h, is_lowest w b h);
    }
  where
    told : (n : ℕ) (x : Option ℕ) (o : Option Row) → row_of w ≡ o → answer_in o w ≡ refused_by n x → WordTold w n x
    told n x None q e = let a : 2 ≡ n = cc in let b : None ≡ x = cc in unknown (sym a) (sym b) (known_row w (ap unknown_in q))
    told n x (Some r) q e =
        split (stray_in (Some r) w)
        (λ t.
        let e' : refused_by 3 (Some (offending_in (Some r) w)) ≡ refused_by n x = rw t at e in
        let a : 3 ≡ n = cc in
        let b : Some (offending_in (Some r) w) ≡ x = cc in
        offending (offending_in (Some r) w) (sym a) (sym b) (lowest_in w r q t))
        (λ t. let e' : fields _ _ ≡ refused_by n x = rw t at e in differ (cc))

    two : (o : Option Row) → unknown_in o ≡ true → answer_in o w ≡ refused_by 2 None
    two None e = refl
    two (Some r) e = absurd (false≢true e)

-- ---- the rules 2 and 3

is_unnamed : (w b : ℕ) → LowestOffending w b → unnamed_bit w ≡ true
unfolding unnamed_bit
is_unnamed w b h = rw (for_row w h.row h.for) (is_stray w b h)

is_offending : (w b : ℕ) → LowestOffending w b → offending_bit w ≡ b
unfolding offending_bit
is_offending w b h = rw (for_row w h.row h.for) (is_lowest w b h)

is_known : (w b : ℕ) → LowestOffending w b → unknown_opcode w ≡ false
unfolding unknown_opcode
is_known w b h = ap unknown_in (for_row w h.row h.for)

module _ (c : Control) (t w : ℕ) where
  by_two : broken_rule refusal.UnknownOpcode (rules c t w) ≡ unknown_opcode w
  unfolding broken_rule rules operand_rules
  by_two = or-false (unknown_opcode w)

  by_three : (q : Refusal) → number_of q ≡ 3 → broken_rule q (rules c t w) ≡ unnamed_bit w
  unfolding broken_rule rules operand_rules
  by_three q e = rw e (or-false (unnamed_bit w))

  pub rule_bits : RuleBits c t w
  rule_bits =
      record {
        unknown = λ e. known_row w (sym by_two ∙ e);
        two = λ h. by_two ∙ no_row w h;
        offends = λ q n e. (offending_bit w, lowest_of w (sym (by_three q n) ∙ e));
        three = λ q n b h. by_three q n ∙ is_unnamed w b h;
      }

  -- a word with an offending bit is judged by that
  pub judged_three : (b : ℕ) → LowestOffending w b → judgement c t w ≡ Err (refusal.UnnamedBit b)
  unfolding judgement rules lowest
  judged_three b h = rw (is_known w b h, is_unnamed w b h, is_offending w b h)

-- ---- a refusal by a word, of the single step

pub told_of : (w : ℕ) (r : Refusal) → WordBit w r → BitTold w r
told_of w r h = go (has_bit r)
  where
    go : HasBit r → BitTold w r
    go (numbers.three i q) = let b = h i q in three i (ap number_of q) (ap bit_of q) (subst (LowestOffending w) (sym b.1) (lowest_of w b.0))
    go (numbers.other n e) = other n e

-- ---- and by a field of a job

module _ (job : List ℕ) where
  -- number 3 at an issue field, with the bit of its word
  abbrev pub Told : Refusal → ℕ → Type 0
  Told r p = (number_of r ≡ 3 → get_or job p 0 ≡ 5) × BitTold (word_in job p) r

  pub not_three : (r : Refusal) (p : ℕ) → number_of r ≢ 3 → Told r p
  not_three r p n = (λ z. absurd (n z), go (has_bit r))
    where
      go : HasBit r → BitTold (word_in job p) r
      go (numbers.three i q) = absurd (n (ap number_of q))
      go (numbers.other n e) = other n e

  module _ (f : Field) (s : Sound job f) where
    abbrev payload : List ℕ
    payload = payload_at job f.place

    byte : length payload ≡ 5 → (i : ℕ) → i < 5 → get_or payload i 0 ≡ get_or job (f.place + 3 + i) 0
    byte l i h =
        let n = le2 job (f.place + 1) in
        let rest = drop (f.place + 3) job in
        get_or-take n rest i 0 (omega (arith, l, h, length-take n rest)) ∙ get_or-drop (f.place + 3) job i 0

    -- tag and word of an issue field
    issue_word : (t w : ℕ) → f.kind ≡ Ok (kind.Issue t w) → (get_or job f.place 0 ≡ 5) × (word_in job f.place ≡ w)
    issue_word t w q =
        let a : Says (job_width job) (get_or job f.place 0) payload (Ok (kind.Issue t w)) = subst (Says (job_width job) (get_or job f.place 0) payload) q s.says in
        let at : (i j : ℕ) → i < 5 → f.place + 3 + i ≡ j → get_or payload i 0 ≡ get_or job j 0 = λ i j h e. byte a.2 i h ∙ ap (λ (k : ℕ). get_or job k 0) e in
        let p = f.place in
        let b1 = at 1 (p + 4) (omega arith) (omega arith) in
        let b2 = at 2 (p + 4 + 1) (omega arith) (omega arith) in
        let b3 = at 3 (p + 4 + 2) (omega arith) (omega arith) in
        let b4 = at 4 (p + 4 + 2 + 1) (omega arith) (omega arith) in
        (a.1, sym (a.4 ∙ (λ i. b1 i + 256 * b2 i + 65536 * (b3 i + 256 * b4 i))))

    field_told : (c : Control) (m : Marks) (r : Refusal) → lowest (field_rules c m f.kind) ≡ Err r → Told r f.place
    field_told c m r e = go (has_bit r)
      where
        go : HasBit r → Told r f.place
        go (numbers.three i q) =
            let b = field_bit c m f.kind r e i q in
            let x = issue_word b.thread b.word b.issue in
            let l : LowestOffending b.word i = subst (LowestOffending b.word) (sym b.bit) (lowest_of b.word b.unnamed) in
            (λ z. x.0, three i (ap number_of q) (ap bit_of q) (subst (λ (w : ℕ). LowestOffending w i) (sym x.1) l))
        go (numbers.other n b) = not_three r f.place n

  pub precheck_told : (r : Refusal) (p : ℕ) → precheck_of job ≡ Err (refused_at r p) → Told r p
  precheck_told r p e = go (shape_of job) refl
    where
      go : (x : Result ⊤ WrongAt) → shape_of job ≡ x → Told r p
      go (Ok x) w =
          check_has Told job (fields_from job 0) (each_field _ job (λ at h. field_told (field_at job at) (sound_at job at h)) 0)
          start (unset (job_width job)) 0 r p (sym (precheck_right job w) ∙ e)
      go (Err wrong) w =
          let x = same_refused (sym (precheck_wrong job wrong.0 w) ∙ e) in
          not_three r p (λ z. omega (arith, ap number_of x.0, z))
