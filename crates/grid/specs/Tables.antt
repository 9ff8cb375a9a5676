-- Lists that are made entry by entry, and the arrays that hold them.
use Rattle.std.specs.Prelude.{List, [], ◌∷◌, ◌++◌, ℕ, ◌-◌, length, replicate}
use Rattle.network.specs.Lists.{each}

-- the list f 0, f 1, .., f (n - 1)
abbrev pub table : {A : Type 0} → (ℕ → A) → ℕ → List A
table f n = each n (λ i. f i ∷ [])

-- a list in an array of k words: the words behind it are 0
abbrev pub padded : ℕ → List ℕ → List ℕ
padded k l = l ++ replicate (k - length l) 0
