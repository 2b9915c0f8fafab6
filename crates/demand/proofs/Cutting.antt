-- The field that the reader finds at a place of a job, and the bytes there. Assumes nothing.
use mathlib.Core.Path.{◌≡◌, sym, ap, ◌∙◌}
use mathlib.Core.List.{List, [], ◌∷◌, ◌++◌}
use Prim.Native.Nat.{ℕ, suc, ◌+◌, ◌≤◌}
use native.Mathlib.Omega.{arith}
use borrow.Author.Tests.{le-leb}
use lib.ListN.{length, get_or, drop, length-append, length-drop, take-append-drop}
use lib.Seq.{take-append_seam, drop-append-add, drop-cons, drop-drop, length-take-le}
use Rattle.job.specs.Bytes.{le2}
use Rattle.job.specs.Fields.{payload_at, end_at, job_width, whole_field, field_at}
use Rattle.job.specs.Kinds.{read_kind}
use Rattle.demand.specs.WellShaped.{FieldBytes, bytes_of}

-- ---- the field that stands behind some bytes

get_d_add : (xs ys : List ℕ) (i : ℕ) → get_or (xs ++ ys) (length xs + i) 0 ≡ get_or ys i 0
get_d_add [] ys i = let e : 0 + i ≡ i = omega arith in rw e
get_d_add (x ∷ xs) ys i = let e : suc (length xs) + i ≡ suc (length xs + i) = omega arith in rw e (get_d_add xs ys i)

module _ (pre : List ℕ) (f : FieldBytes) (rest : List ℕ) where
  abbrev all_bytes : List ℕ
  all_bytes = pre ++ (bytes_of f ++ rest)

  long : le2 all_bytes (length pre + 1) ≡ length f.payload
  long =
      let e : length pre + 1 + 1 ≡ length pre + 2 = omega arith in
      rw (e, get_d_add pre (bytes_of f ++ rest) 1, get_d_add pre (bytes_of f ++ rest) 2) (sym f.long)

  payload_here : payload_at all_bytes (length pre) ≡ f.payload
  payload_here = rw (long, drop-append-add pre (bytes_of f ++ rest) 3) (take-append_seam f.payload rest)

  ends_here : end_at all_bytes (length pre) ≡ length pre + 3 + length f.payload
  ends_here = ap (λ (n : ℕ). length pre + 3 + n) long

  inside_here : end_at all_bytes (length pre) ≤ length all_bytes
  inside_here = rw (ends_here, length-append pre (bytes_of f ++ rest), length-append f.payload rest) (omega arith)

  pub field_here : field_at all_bytes (length pre)
      ≡ whole_field (length pre) (read_kind (job_width all_bytes) f.tag f.payload) (length pre + 3 + length f.payload)
  unfolding field_at
  field_here =
      let tag : get_or all_bytes (length pre) 0 ≡ f.tag = let e : length pre + 0 ≡ length pre = omega arith in rw e at (get_d_add pre (bytes_of f ++ rest) 0) in
      rw (le-leb _ _ inside_here, tag, payload_here, ends_here)

-- and back: bytes that are a whole field
module _ (job : List ℕ) (at : ℕ) (h : end_at job at ≤ length job) where
  abbrev pub here : FieldBytes
  here =
      record {
        tag = get_or job at 0;
        low = get_or job (at + 1) 0;
        high = get_or job (at + 1 + 1) 0;
        payload = payload_at job at;
        long = length-take-le (le2 job (at + 1)) (drop (at + 3) job) (rw length-drop (omega arith));
      }

  pub cut : drop at job ≡ bytes_of here ++ drop (end_at job at) job
  cut =
      let a : drop at job ≡ get_or job at 0 ∷ drop (suc at) job = drop-cons job at 0 (omega arith) in
      let b : drop (suc at) job ≡ get_or job (suc at) 0 ∷ drop (suc (suc at)) job = drop-cons job (suc at) 0 (omega arith) in
      let c : drop (suc (suc at)) job ≡ get_or job (suc (suc at)) 0 ∷ drop (suc (suc (suc at))) job = drop-cons job (suc (suc at)) 0 (omega arith) in
      let d : drop (suc (suc (suc at))) job ≡ payload_at job at ++ drop (end_at job at) job =
      let e : suc (suc (suc at)) ≡ at + 3 = omega arith in
      rw e (sym (take-append-drop (le2 job (at + 1)) (drop (at + 3) job)) ∙ ap (λ (l : List ℕ). payload_at job at ++ l) (drop-drop (le2 job (at + 1)) (at + 3) job)) in
      let x : suc at ≡ at + 1 = omega arith in
      let y : suc (suc at) ≡ at + 1 + 1 = omega arith in
      a ∙ ap (λ (l : List ℕ). get_or job at 0 ∷ l)
      (b ∙ (λ i. get_or job (x i) 0 ∷ (c ∙ (λ j. get_or job (y j) 0 ∷ d j)) i))
