-- The distinct numbers of a list, rising: "The columns are the distinct x values of all the job's points" (01, Lines, boxes, meeting).
use Rattle.std.specs.Prelude.{List, [], ◌∷◌, true, false, ℕ, ltb}

-- the rising list with v in it, once
unfoldable pub insert : ℕ → List ℕ → List ℕ
insert v [] = v ∷ []
insert v (a ∷ l) = elim (ltb v a) [ true ↦ v ∷ a ∷ l | false ↦ elim (ltb a v) [ true ↦ a ∷ insert v l | false ↦ a ∷ l ] ]

-- the distinct numbers of a list, rising
abbrev pub distinct : List ℕ → List ℕ
distinct [] = []
distinct (v ∷ l) = insert v (distinct l)
