-- Text after text: what was written and what is left are together all that is printed. Assumes nothing.
use Rattle.std.proofs.Common.{◌≡◌, refl, sym, ap, ◌∙◌, ℕ, List, [], ◌∷◌, ◌++◌, map, append_assoc, append-nil}
use Rattle.lines.specs.Printed.{Printed, printed_text}
use Rattle.show.specs.Bytes.{bytes_of}

-- list after list
abbrev pub joined : List (List ℕ) → List ℕ
joined [] = []
joined (l ∷ ls) = l ++ joined ls

-- the texts of what is printed, joined, are its bytes
pub joined_texts : (ps : List Printed) → joined (map printed_text ps) ≡ bytes_of ps
unfolding bytes_of
joined_texts [] = refl
joined_texts (p ∷ ps) = ap (λ (l : List ℕ). printed_text p ++ l) (joined_texts ps)

module _ (done all : List ℕ) (left : List (List ℕ)) (whole : done ++ joined left ≡ all) where
  -- a text goes from what is left to what was written
  pub one_more : (text : List ℕ) (rest : List (List ℕ)) → left ≡ text ∷ rest → (done ++ text) ++ joined rest ≡ all
  one_more text rest e = append_assoc done text (joined rest) ∙ ap (λ l. done ++ joined l) (sym e) ∙ whole

  -- at the end nothing is left
  pub none_left : left ≡ [] → done ≡ all
  none_left e = sym (append-nil done) ∙ ap (λ l. done ++ joined l) (sym e) ∙ whole
