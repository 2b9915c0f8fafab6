-- The shape that the pre-check finds is the one that is said of the bytes: right exactly when the job is well-shaped, and wrong exactly at its first wrong
-- place. Assumes nothing.
use mathlib.Core.Path.{◌≡◌, refl, sym, ap, ◌∙◌, subst}
use mathlib.Core.List.{List, [], ◌∷◌, ◌++◌, append_assoc, append-nil}
use Prim.Native.Nat.{ℕ, zero, suc, ◌+◌, ◌≤◌, ◌<◌}
use native.Mathlib.Omega.{arith}
use borrow.Author.Tests.{leb-true, leb-false, le-leb, lt-leb}
use lib.Dec.{leb}
use lib.ListN.{length, drop, length-append}
use lib.Seq.{append_snoc, drop-append_seam}
use Rattle.std.specs.Prelude.{Result, Ok, Err, ⊤}
use Rattle.cells.specs.Layout.{job_bytes}
use Rattle.cells.specs.declared.Width.{Width}
use Rattle.cells.proofs.Cells.{split}
use Rattle.job.specs.Fields.{end_at, job_width, whole_field, field_at, fields_from}
use Rattle.job.specs.Kinds.{read_kind}
use Rattle.job.specs.Shape.{placed, wrong_at, shape_at_end, shape_from, shape_of}
use Rattle.job.specs.declared.Cause.{Cause}
use Rattle.job.specs.declared.Cause.TheVariants.{CutOff}
use Rattle.job.specs.declared.Kind.{Kind}
use Rattle.job.specs.declared.Kind.TheVariants as kind
use Rattle.job.specs.declared.Field.{Field}
use Rattle.job.specs.declared.WrongAt.{WrongAt}
use Rattle.job.specs.declared.stages.Stage.{Stage}
use Rattle.job.specs.declared.stages.Stage.TheVariants as stage
use Rattle.job.proofs.Walk.{place_at, fields_end, fields_step}
use Rattle.job.proofs.Shaped.{shape_on, shape_wrong, shape_end, same_place}
use Rattle.demand.specs.WellShaped as shape
use Rattle.demand.specs.WellShaped.{FieldBytes, bytes_of, joined, Settles, Prints, Acts, EachOf, WellShaped, InPlace, AllInPlace, FirstWrong}
use Rattle.demand.proofs.Cutting.{field_here, here, cut}
use Rattle.demand.proofs.Tags.{Acting, Printing, found, settles_kind, acts_kind, prints_kind, kind_settles, kind_acts, kind_prints}

differ : {A : Type 0} → ◌≡◌ {A = ℕ} 0 1 → A
differ z = absurd (omega arith)

abbrev Silent : Width → FieldBytes → Type 0
Silent w g = Prints w g → ⊥

-- ---- lists

module _ (P : FieldBytes → Type 0) where
  each_snoc : (fs : List FieldBytes) (f : FieldBytes) → EachOf P fs → P f → EachOf P (fs ++ f ∷ [])
  each_snoc [] f h q = (q, tt)
  each_snoc (g ∷ fs) f h q = (h.0, each_snoc fs f h.1 q)

  each_front : (fs gs : List FieldBytes) → EachOf P (fs ++ gs) → EachOf P fs
  each_front [] gs h = tt
  each_front (g ∷ fs) gs h = (h.0, each_front fs gs h.1)

  each_back : (fs gs : List FieldBytes) → EachOf P (fs ++ gs) → EachOf P gs
  each_back [] gs h = h
  each_back (g ∷ fs) gs h = each_back fs gs h.1

some_snoc : (fs : List FieldBytes) (f : FieldBytes) → 1 ≤ length (fs ++ f ∷ [])
some_snoc fs f = rw length-append (omega arith)

joined_append : (fs gs : List FieldBytes) → joined (fs ++ gs) ≡ joined fs ++ joined gs
unfolding joined
joined_append [] gs = refl
joined_append (f ∷ fs) gs = ap (λ (l : List ℕ). bytes_of f ++ l) (joined_append fs gs) ∙ sym (append_assoc (bytes_of f) (joined fs) (joined gs))

joined_snoc : (fs : List FieldBytes) (f : FieldBytes) → joined (fs ++ f ∷ []) ≡ joined fs ++ bytes_of f
unfolding joined
joined_snoc fs f = joined_append fs (f ∷ []) ∙ ap (λ (l : List ℕ). joined fs ++ l) (append-nil (bytes_of f))

-- ---- how far fields that are right and in place have come

abbrev At : Width → List FieldBytes → Stage → Type 0
At w before stage.Opening = before ≡ []
At w before stage.Acting = (1 ≤ length before) × EachOf (Silent w) before
At w before stage.Printing = (1 ≤ length before) × (EachOf (Silent w) before → ⊥)

never_both : (k : Result Kind Cause) → Acting k → Printing k → ⊥
never_both (Ok kind.Settings) a b = b
never_both (Ok (kind.Issue t w)) a b = b
never_both (Ok (kind.HandOver file)) a b = b
never_both (Ok (kind.Writes x)) a b = b
never_both (Ok (kind.Prints o)) a b = a
never_both (Err c) a b = b

acting_in : (k : Result Kind Cause) → Acting k → placed stage.Acting k ≡ Ok stage.Acting
acting_in (Ok kind.Settings) a = absurd a
acting_in (Ok (kind.Issue t w)) a = refl
acting_in (Ok (kind.HandOver file)) a = refl
acting_in (Ok (kind.Writes x)) a = refl
acting_in (Ok (kind.Prints o)) a = absurd a
acting_in (Err c) a = absurd a

printing_in : (k : Result Kind Cause) → Printing k → (placed stage.Acting k ≡ Ok stage.Printing) × (placed stage.Printing k ≡ Ok stage.Printing)
printing_in (Ok kind.Settings) a = absurd a
printing_in (Ok (kind.Issue t w)) a = absurd a
printing_in (Ok (kind.HandOver file)) a = absurd a
printing_in (Ok (kind.Writes x)) a = absurd a
printing_in (Ok (kind.Prints o)) a = (refl, refl)
printing_in (Err c) a = absurd a

-- the two ways to hold a field against those before it: by its place among them, and by the stage
module _ (w : Width) (before : List FieldBytes) (f : FieldBytes) where
  settles_silent : Settles f → Silent w f
  settles_silent h p = subst Printing (settles_kind w f h) (prints_kind w f p)

  acts_silent : Acts w f → Silent w f
  acts_silent h p = never_both (found w f) (acts_kind w f h) (prints_kind w f p)

  empty : before ≡ [] → 1 ≤ length before → ⊥
  empty e l = let z = ap length e in omega (arith, z)

  record Onto (s : Stage) : Type 0 where
    next : Stage
    here : placed s (found w f) ≡ Ok next
    at : At w (before ++ f ∷ []) next

  on : (s : Stage) → At w before s → InPlace w before f → Onto s
  on stage.Opening a (shape.first e h) =
      record { next = stage.Acting; here = ap (placed stage.Opening) (settles_kind w f h); at = (some_snoc before f, each_snoc (Silent w) before f (rw a tt) (settles_silent h)) }
  on stage.Opening a (shape.acting l n h) = absurd (empty a l)
  on stage.Opening a (shape.printing l h) = absurd (empty a l)
  on stage.Acting a (shape.first e h) = absurd (empty e a.0)
  on stage.Acting a (shape.acting l n h) =
      record { next = stage.Acting; here = acting_in (found w f) (acts_kind w f h); at = (some_snoc before f, each_snoc (Silent w) before f n (acts_silent h)) }
  on stage.Acting a (shape.printing l h) =
      record { next = stage.Printing; here = (printing_in (found w f) (prints_kind w f h)).0; at = (some_snoc before f, λ n. (each_back (Silent w) before (f ∷ []) n).0 h) }
  on stage.Printing a (shape.first e h) = absurd (empty e a.0)
  on stage.Printing a (shape.acting l n h) = absurd (a.1 n)
  on stage.Printing a (shape.printing l h) =
      record { next = stage.Printing; here = (printing_in (found w f) (prints_kind w f h)).1; at = (some_snoc before f, λ n. a.1 (each_front (Silent w) before (f ∷ []) n)) }

  back : (s next : Stage) → At w before s → placed s (found w f) ≡ Ok next → InPlace w before f
  back stage.Opening next a e = go (found w f) refl e
    where
      go : (k : Result Kind Cause) → found w f ≡ k → placed stage.Opening k ≡ Ok next → InPlace w before f
      go (Ok kind.Settings) q e = shape.first a (kind_settles w f q)
      go (Ok (kind.Issue t x)) q e = differ (cc)
      go (Ok (kind.HandOver file)) q e = differ (cc)
      go (Ok (kind.Writes x)) q e = differ (cc)
      go (Ok (kind.Prints o)) q e = differ (cc)
      go (Err c) q e = differ (cc)
  back stage.Acting next a e = go (found w f) refl e
    where
      acts : Acting (found w f) → InPlace w before f
      acts h = shape.acting a.0 a.1 (kind_acts w f h)

      go : (k : Result Kind Cause) → found w f ≡ k → placed stage.Acting k ≡ Ok next → InPlace w before f
      go (Ok kind.Settings) q e = differ (cc)
      go (Ok (kind.Issue t x)) q e = acts (rw q tt)
      go (Ok (kind.HandOver file)) q e = acts (rw q tt)
      go (Ok (kind.Writes x)) q e = acts (rw q tt)
      go (Ok (kind.Prints o)) q e = shape.printing a.0 (kind_prints w f (rw q tt))
      go (Err c) q e = differ (cc)
  back stage.Printing next a e = go (found w f) refl e
    where
      go : (k : Result Kind Cause) → found w f ≡ k → placed stage.Printing k ≡ Ok next → InPlace w before f
      go (Ok kind.Settings) q e = differ (cc)
      go (Ok (kind.Issue t x)) q e = differ (cc)
      go (Ok (kind.HandOver file)) q e = differ (cc)
      go (Ok (kind.Writes x)) q e = differ (cc)
      go (Ok (kind.Prints o)) q e = shape.printing a.0 (kind_prints w f (rw q tt))
      go (Err c) q e = differ (cc)

-- ---- fields in place are settings, fields that act, outputs

module _ (w : Width) where
  place_printing : (fs before : List FieldBytes) → 1 ≤ length before → EachOf (Prints w) fs → AllInPlace w before fs
  place_printing [] before l h = tt
  place_printing (f ∷ fs) before l h = (shape.printing l h.0, place_printing fs (before ++ f ∷ []) (some_snoc before f) h.1)

  place_acting : (acting outputs before : List FieldBytes) → 1 ≤ length before → EachOf (Silent w) before → EachOf (Acts w) acting → EachOf (Prints w) outputs
      → AllInPlace w before (acting ++ outputs)
  place_acting [] outputs before l n h p = place_printing outputs before l p
  place_acting (f ∷ acting) outputs before l n h p =
      (shape.acting l n h.0, place_acting acting outputs (before ++ f ∷ []) (some_snoc before f) (each_snoc (Silent w) before f n (acts_silent w before f h.0)) h.1 p)

  sort_printing : (fs before : List FieldBytes) → 1 ≤ length before → (EachOf (Silent w) before → ⊥) → AllInPlace w before fs → EachOf (Prints w) fs
  sort_printing [] before l n h = tt
  sort_printing (f ∷ fs) before l n h =
      (go h.0, sort_printing fs (before ++ f ∷ []) (some_snoc before f) (λ q. n (each_front (Silent w) before (f ∷ []) q)) h.1)
    where
      go : InPlace w before f → Prints w f
      go (shape.first e s) = absurd (empty w before f e l)
      go (shape.acting l q a) = absurd (n q)
      go (shape.printing l p) = p

  record Sorted (fs : List FieldBytes) : Type 0 where
    acting : List FieldBytes
    outputs : List FieldBytes
    whole : fs ≡ acting ++ outputs
    acts : EachOf (Acts w) acting
    prints : EachOf (Prints w) outputs

  sort_acting : (fs before : List FieldBytes) → 1 ≤ length before → EachOf (Silent w) before → AllInPlace w before fs → Sorted fs
  sort_acting [] before l n h = record { acting = []; outputs = []; whole = refl; acts = tt; prints = tt }
  sort_acting (f ∷ fs) before l n h =
      go h.0 (λ a. sort_acting fs (before ++ f ∷ []) (some_snoc before f) (each_snoc (Silent w) before f n (acts_silent w before f a)) h.1)
    where
      go : InPlace w before f → (Acts w f → Sorted fs) → Sorted (f ∷ fs)
      go (shape.first e s) rest = absurd (empty w before f e l)
      go (shape.acting l q a) rest =
          let i = rest a in
          record { acting = f ∷ i.acting; outputs = i.outputs; whole = ap (λ (l : List FieldBytes). f ∷ l) i.whole; acts = (a, i.acts); prints = i.prints }
      go (shape.printing l p) rest =
          record {
            acting = [];
            outputs = f ∷ fs;
            whole = refl;
            acts = tt;
            prints = (p, sort_printing fs (before ++ f ∷ []) (some_snoc before f) (λ q. (each_back (Silent w) before (f ∷ []) q).0 p) h.1);
          }

  all_silent : (fs : List FieldBytes) → EachOf (Acts w) fs → EachOf (Silent w) fs
  all_silent [] h = tt
  all_silent (f ∷ fs) h = (acts_silent w [] f h.0, all_silent fs h.1)

  all_snoc : (fs before : List FieldBytes) (f : FieldBytes) → AllInPlace w before fs → InPlace w (before ++ fs) f → AllInPlace w before (fs ++ f ∷ [])
  all_snoc [] before f h i = (rw append-nil at i, tt)
  all_snoc (g ∷ fs) before f h i = (h.0, all_snoc fs (before ++ g ∷ []) f h.1 (rw append_snoc i))

-- ---- the walk over the fields

module _ (job : List ℕ) where
  abbrev w : Width
  w = job_width job

  abbrev pub from : List FieldBytes → ℕ
  from before = length (joined before)

  abbrev onward : List FieldBytes → Stage → Result ⊤ WrongAt
  onward before s = shape_from (length job) (fields_from job (from before)) s

  module _ (before : List FieldBytes) (f : FieldBytes) (rest : List ℕ) (e : job ≡ joined before ++ (bytes_of f ++ rest)) where
    pub field_after : field_at job (from before) ≡ whole_field (from before) (found w f) (from (before ++ f ∷ []))
    field_after =
        let n : from before + 3 + length f.payload ≡ from (before ++ f ∷ []) = rw (joined_snoc before f, length-append (joined before) (bytes_of f)) (omega arith) in
        subst (λ (j : List ℕ). field_at j (from before) ≡ whole_field (from before) (read_kind (job_width j) f.tag f.payload) (from before + 3 + length f.payload)) (sym e)
        (field_here (joined before) f rest)
        ∙ ap (whole_field (from before) (found w f)) n

    pub inside : from before < length job
    inside = let z = ap length e ∙ length-append (joined before) (bytes_of f ++ rest) in omega (arith, z)

    turn : (s next : Stage) → placed s (found w f) ≡ Ok next → onward before s ≡ onward (before ++ f ∷ []) next
    turn s next p =
        ap (λ (fs : List Field). shape_from (length job) fs s)
        (fields_step job (from before) inside ∙ ap (λ (g : Field). g ∷ fields_from job g.next) field_after)
        ∙ shape_on (length job) (whole_field (from before) (found w f) (from (before ++ f ∷ []))) _ s next p

    pub after : job ≡ joined (before ++ f ∷ []) ++ rest
    after = e ∙ sym (append_assoc (joined before) (bytes_of f) rest) ∙ ap (λ (l : List ℕ). l ++ rest) (sym (joined_snoc before f))

  -- fields that are in place lead from one stage to another
  record Through (before fs : List FieldBytes) (s : Stage) : Type 0 where
    next : Stage
    at : At w (before ++ fs) next
    same : onward before s ≡ onward (before ++ fs) next

  through : (fs before : List FieldBytes) (s : Stage) (rest : List ℕ) → job ≡ joined before ++ (joined fs ++ rest) → At w before s → AllInPlace w before fs → Through before fs s
  unfolding joined
  through [] before s rest e a h =
      let z = sym (append-nil before) in
      record { next = s; at = subst (λ (l : List FieldBytes). At w l s) z a; same = ap (λ (l : List FieldBytes). onward l s) z }
  through (f ∷ fs) before s rest e a h =
      let o = on w before f s a h.0 in
      let q : job ≡ joined before ++ (bytes_of f ++ (joined fs ++ rest)) = e ∙ ap (λ (l : List ℕ). joined before ++ l) (append_assoc (bytes_of f) (joined fs) rest) in
      let i = through fs (before ++ f ∷ []) o.next rest (after before f (joined fs ++ rest) q) o.at h.1 in
      let z = append_snoc before f fs in
      record {
        next = i.next;
        at = rw z at i.at;
        same = turn before f (joined fs ++ rest) q s o.next o.here ∙ i.same ∙ ap (λ (l : List FieldBytes). onward l i.next) z;
      }

  -- from the first field to the last
  whole_through : (fs : List FieldBytes) → job ≡ joined fs → AllInPlace w [] fs → Through [] fs stage.Opening
  unfolding joined
  whole_through fs e h = through fs [] stage.Opening [] (e ∙ sym (append-nil (joined fs))) refl h

  at_end : (fs : List FieldBytes) (s : Stage) → job ≡ joined fs → onward fs s ≡ shape_at_end (length job) s
  at_end fs s e =
      let n : length job ≤ from fs = let z = ap length e in omega (arith, z) in
      ap (λ (l : List Field). shape_from (length job) l s) (fields_end job (from fs) n) ∙ shape_end (length job) s

  shape_short : length job ≤ 8192 → shape_of job ≡ onward [] stage.Opening
  unfolding shape_of joined
  shape_short h = rw (le-leb (length job) job_bytes h)

  -- ---- what is said of the bytes, and so found

  pub well_right : WellShaped job → shape_of job ≡ Ok tt
  well_right h =
      let fs = h.settings ∷ h.acting ++ h.outputs in
      let silent : EachOf (Silent w) (h.settings ∷ []) = (settles_silent w [] h.settings h.settles, tt) in
      let placing : AllInPlace w [] fs = (shape.first refl h.settles, place_acting w h.acting h.outputs (h.settings ∷ []) (omega arith) silent h.acts h.prints) in
      let t = whole_through fs h.whole placing in
      shape_short h.short ∙ t.same ∙ at_end fs t.next h.whole ∙ go t.next t.at
    where
      loud : (l : List FieldBytes) → 1 ≤ length l → EachOf (Prints w) l → EachOf (Silent w) l → ⊥
      loud [] some p q = absurd (omega arith)
      loud (f ∷ l) some p q = q.0 p.0

      go : (s : Stage) → At w (h.settings ∷ h.acting ++ h.outputs) s → shape_at_end (length job) s ≡ Ok tt
      go stage.Opening a = absurd (let z = ap length a in omega (arith, z))
      go stage.Acting a = absurd (loud h.outputs h.some h.prints (each_back (Silent w) (h.settings ∷ h.acting) h.outputs a.1))
      go stage.Printing a = refl

  -- a field that is in place by the stage is whole, and begins the bytes there
  record Next (before : List FieldBytes) (s next : Stage) (rest : List ℕ) : Type 0 where
    f : FieldBytes
    more : List ℕ
    begins : rest ≡ bytes_of f ++ more
    placing : InPlace w before f
    here : placed s (found w f) ≡ Ok next

  behind : (before : List FieldBytes) (rest : List ℕ) → job ≡ joined before ++ rest → drop (from before) job ≡ rest
  behind before rest e = ap (drop (from before)) e ∙ drop-append_seam (joined before) rest

  next_field : (before : List FieldBytes) (rest : List ℕ) (s next : Stage) → job ≡ joined before ++ rest → At w before s
      → placed s (field_at job (from before)).kind ≡ Ok next → Next before s next rest
  unfolding field_at
  next_field before rest s next e a p =
      split (leb (end_at job (from before)) (length job))
      (λ b.
      let h = leb-true _ _ b in
      let q : placed s (found w (here job (from before) h)) ≡ Ok next = rw b at p in
      record {
        f = here job (from before) h;
        more = drop (end_at job (from before)) job;
        begins = sym (behind before rest e) ∙ cut job (from before) h;
        placing = back w before (here job (from before) h) s next a q;
        here = q;
      })
      (λ b. let q : placed s (Err CutOff) ≡ Ok next = rw b at p in differ (cc))

  starts : (before : List FieldBytes) (rest : List ℕ) → job ≡ joined before ++ rest → 1 ≤ length rest → from before < length job
  starts before rest e l = let z = ap length e ∙ length-append (joined before) rest in omega (arith, z)

  -- no field that is in place begins the bytes there, so the one found is wrong
  wrong_here : (before : List FieldBytes) (rest : List ℕ) (s : Stage) → job ≡ joined before ++ rest → 1 ≤ length rest → At w before s
      → ((f : FieldBytes) (more : List ℕ) → rest ≡ bytes_of f ++ more → InPlace w before f → ⊥) → onward before s ≡ wrong_at (from before)
  wrong_here before rest s e l a none =
      let at = from before in
      let g = field_at job at in
      ap (λ (fs : List Field). shape_from (length job) fs s) (fields_step job at (starts before rest e l))
      ∙ go (placed s g.kind) refl
    where
      go : (x : Result Stage Cause) → placed s (field_at job (from before)).kind ≡ x
          → shape_from (length job) (field_at job (from before) ∷ fields_from job (field_at job (from before)).next) s ≡ wrong_at (from before)
      go (Ok next) p = let x = next_field before rest s next e a p in absurd (none x.f x.more x.begins x.placing)
      go (Err c) p =
          shape_wrong (length job) (field_at job (from before)) (fields_from job (field_at job (from before)).next) s c p ∙ ap wrong_at (place_at job (from before))

  pub first_wrong : (place : ℕ) → FirstWrong job place → shape_of job ≡ wrong_at place
  unfolding shape_of joined
  first_wrong place (shape.over_long h e) = rw (lt-leb (length job) job_bytes h, e)
  first_wrong place (shape.no_output l fs e h n q) =
      let t = whole_through fs e h in
      shape_short l ∙ t.same ∙ at_end fs t.next e ∙ go t.next t.at ∙ ap wrong_at (sym q)
    where
      go : (s : Stage) → At w fs s → shape_at_end (length job) s ≡ wrong_at (length job)
      go stage.Opening a = refl
      go stage.Acting a = refl
      go stage.Printing a = absurd (a.1 n)
  first_wrong place (shape.wrong_field l before rest e some h none q) =
      let t = through before [] stage.Opening rest e refl h in
      shape_short l ∙ t.same ∙ wrong_here before rest t.next e some t.at none ∙ ap wrong_at (sym q)

  -- ---- what is found, and so said of the bytes

  -- the fields of a right shape
  record Whole : Type 0 where
    fs : List FieldBytes
    bytes : job ≡ joined fs
    order : AllInPlace w [] fs
    some : EachOf (Silent w) fs → ⊥

  abbrev Said : Result ⊤ WrongAt → Type 0
  Said (Ok x) = Whole
  Said (Err wrong) = FirstWrong job wrong.0

  module _ (short : length job ≤ 8192) where
    said_end : (before : List FieldBytes) (s : Stage) → job ≡ joined before → At w before s → AllInPlace w [] before → Said (shape_at_end (length job) s)
    said_end before stage.Opening e a h = shape.no_output short before e h (rw a tt) refl
    said_end before stage.Acting e a h = shape.no_output short before e h a.1 refl
    said_end before stage.Printing e a h = record { fs = before; bytes = e; order = h; some = a.1 }

    -- a field that is wrong by the stage
    said_wrong : (before : List FieldBytes) (rest : List ℕ) (s : Stage) (c : Cause) → job ≡ joined before ++ rest → 1 ≤ length rest → At w before s → AllInPlace w [] before
        → placed s (field_at job (from before)).kind ≡ Err c → FirstWrong job (from before)
    said_wrong before rest s c e l a h p =
        shape.wrong_field short before rest e l h
        (λ f more q i.
        let o = on w before f s a i in
        let g = field_after before f more (e ∙ ap (λ (l : List ℕ). joined before ++ l) q) in
        let z : Err c ≡ Ok o.next = sym p ∙ ap (λ (x : Field). placed s x.kind) g ∙ o.here in
        differ (cc))
        refl

    -- from a place on, with at most n bytes left
    abbrev SaidFrom : ℕ → Type 0
    SaidFrom n =
        (before : List FieldBytes) (rest : List ℕ) (s : Stage) → length rest ≤ n → job ≡ joined before ++ rest → At w before s → AllInPlace w [] before → Said (onward before s)

    said_none : (before : List FieldBytes) (s : Stage) → job ≡ joined before ++ [] → At w before s → AllInPlace w [] before → Said (onward before s)
    said_none before s e a h =
        let q : job ≡ joined before = e ∙ append-nil (joined before) in
        subst Said (sym (at_end before s q)) (said_end before s q a h)

    said_some : (n : ℕ) → SaidFrom n → (before : List FieldBytes) (rest : List ℕ) (s : Stage) → 1 ≤ length rest → length rest ≤ suc n → job ≡ joined before ++ rest → At w before s
        → AllInPlace w [] before → Said (onward before s)
    said_some n further before rest s some l e a h =
        subst (λ (fs : List Field). Said (shape_from (length job) fs s)) (sym (fields_step job (from before) (starts before rest e some)))
        (go (placed s (field_at job (from before)).kind) refl)
      where
        go : (y : Result Stage Cause) → placed s (field_at job (from before)).kind ≡ y
            → Said (shape_from (length job) (field_at job (from before) ∷ fields_from job (field_at job (from before)).next) s)
        go (Err c) p =
            subst Said (sym (shape_wrong (length job) (field_at job (from before)) (fields_from job (field_at job (from before)).next) s c p ∙ ap wrong_at (place_at job (from before))))
            (said_wrong before rest s c e some a h p)
        go (Ok next) p =
            let y = next_field before rest s next e a p in
            let q : job ≡ joined before ++ (bytes_of y.f ++ y.more) = e ∙ ap (λ (l : List ℕ). joined before ++ l) y.begins in
            let z : length rest ≡ length (bytes_of y.f) + length y.more = ap length y.begins ∙ length-append (bytes_of y.f) y.more in
            let o = on w before y.f s a y.placing in
            let same : Ok o.next ≡ Ok next = sym o.here ∙ y.here in
            let k : o.next ≡ next = cc in
            let i = further (before ++ y.f ∷ []) y.more next (omega (arith, z)) (after before y.f y.more q) (rw k at o.at) (all_snoc w before [] y.f h y.placing) in
            subst (λ (fs : List Field). Said (shape_from (length job) fs s)) (fields_step job (from before) (starts before rest e some))
            (subst Said (sym (turn before y.f y.more q s next y.here)) i)

    said : (n : ℕ) → SaidFrom n
    said zero before [] s l e a h = said_none before s e a h
    said zero before (x ∷ rest) s l e a h = absurd (omega arith)
    said (suc n) before rest s l e a h = go rest (said_some n (said n) before rest s) l e
      where
        go : (r : List ℕ) → (1 ≤ length r → length r ≤ suc n → job ≡ joined before ++ r → At w before s → AllInPlace w [] before → Said (onward before s))
            → length r ≤ suc n → job ≡ joined before ++ r → Said (onward before s)
        go [] some l e = said_none before s e a h
        go (x ∷ r) some l e = some (omega arith) l e a h

    all_said : Said (onward [] stage.Opening)
    unfolding joined
    all_said = said (length job) [] job stage.Opening (omega arith) refl refl tt

  long_wrong : length job ≤ 8192 → (x : Result ⊤ WrongAt) → shape_of job ≡ x → Said x
  long_wrong short x e = subst Said (sym (shape_short short) ∙ e) (all_said short)

  pub wrong_first : (place : ℕ) → shape_of job ≡ wrong_at place → FirstWrong job place
  unfolding shape_of
  wrong_first place e =
      split (leb (length job) job_bytes) (λ b. long_wrong (leb-true _ _ b) (wrong_at place) e)
      (λ b.
      let q : wrong_at 0 ≡ wrong_at place = rw b at e in
      let z = same_place q in
      shape.over_long (leb-false (length job) job_bytes b) (sym z))

  well : length job ≤ 8192 → (x : Whole) → WellShaped job
  well short x = go x.fs x.bytes x.order x.some
    where
      go : (fs : List FieldBytes) → job ≡ joined fs → AllInPlace w [] fs → (EachOf (Silent w) fs → ⊥) → WellShaped job
      go [] e h n = absurd (n tt)
      go (f ∷ fs) e h n = first h.0
        where
          first : InPlace w [] f → WellShaped job
          first (shape.acting l q a) = absurd (omega arith)
          first (shape.printing l p) = absurd (omega arith)
          first (shape.first q s) =
              let silent = settles_silent w [] f s in
              let i = sort_acting w fs (f ∷ []) (omega arith) (silent, tt) h.1 in
              record {
                short = short;
                settings = f;
                acting = i.acting;
                outputs = i.outputs;
                whole = e ∙ ap (λ (l : List FieldBytes). joined (f ∷ l)) i.whole;
                settles = s;
                acts = i.acts;
                prints = i.prints;
                some = some i.outputs (λ q. n (silent, rw (i.whole, q, append-nil i.acting) (all_silent w i.acting i.acts)));
              }
            where
              some : (l : List FieldBytes) → (l ≡ [] → ⊥) → 1 ≤ length l
              some [] d = absurd (d refl)
              some (g ∷ l) d = omega arith

  pub right_well : shape_of job ≡ Ok tt → WellShaped job
  unfolding shape_of
  right_well e =
      split (leb (length job) job_bytes) (λ b. well (leb-true _ _ b) (long_wrong (leb-true _ _ b) (Ok tt) e))
      (λ b. let q : wrong_at 0 ≡ Ok tt = rw b at e in differ (cc))
