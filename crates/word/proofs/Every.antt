-- What holds of each element of a list. Assumes nothing.
use mathlib.Core.List.{List, [], ◌∷◌, ◌++◌}

abbrev pub Every : {A : Type 0} → (A → Type 0) → List A → Type 0
Every P [] = Unit {0}
Every P (x ∷ l) = P x × Every P l

-- its proof, element after element
infixr 10 ◌and◌
pub ◌and◌ : {X Y : Type 0} → X → Y → X × Y
x and y = (x, y)

pub every_append : {A : Type 0} (P : A → Type 0) (l m : List A) → Every P l → Every P m → Every P (l ++ m)
every_append P [] m h k = k
every_append P (x ∷ l) m h k = (h.0, every_append P l m h.1 k)
