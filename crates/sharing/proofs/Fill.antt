-- Every instance has a table with the rules, by recursion over the vertices: what is said of such tables is not said of nothing.
use mathlib.Core.Path.{◌≡◌, refl}
use Prim.Native.Nat.{ℕ, zero, suc}
use Rattle.network.specs.Steps.{Dir, hor, ver}
use Rattle.sharing.specs.Instance.{Instance, owner}
use Rattle.sharing.specs.Table.{Flag, best, run, Table, all, only, arrival, from, best_of, run_word, Exact}

-- the words of the two edges that end at a vertex
abbrev Cell : Type 0
Cell = Dir → Flag → ℕ

abbrev blank : Flag → ℕ
blank f = 0

abbrev cell_of : (Flag → ℕ) → (Flag → ℕ) → Cell
cell_of x y hor = x
cell_of x y ver = y

module _ (I : Instance) where
  -- the words of the edge along d from (s, t), by the cell u where it begins
  abbrev run_after : Cell → Dir → ℕ → ℕ → ℕ
  run_after u d s t = run_word (owner I d s t) (λ k. from I (λ d f s t. u d f) k d s t) (λ k. only (arrival I d s t) k (u d run)) (I.len d s)

  abbrev words : Cell → Dir → ℕ → ℕ → Flag → ℕ
  words u d s t best = best_of (owner I d s t) (all (λ d f s t. u d f) d s t) (run_after u d s t) (I.len d s)
  words u d s t run = run_after u d s t

  abbrev first_column : ℕ → Cell
  first_column zero = cell_of blank blank
  first_column (suc b) = cell_of blank (words (first_column b) ver b 0)

  abbrev next_column : ℕ → (ℕ → Cell) → ℕ → Cell
  next_column a before zero = cell_of (words (before 0) hor a 0) blank
  next_column a before (suc b) = cell_of (words (before (suc b)) hor a (suc b)) (words (next_column a before b) ver b (suc a))

  abbrev cell : ℕ → ℕ → Cell
  cell zero b = first_column b
  cell (suc a) b = next_column a (cell a) b

  abbrev pub filled : Table
  filled hor f s t = cell s t hor f
  filled ver f s t = cell t s ver f

  -- the table by recursion has the rules
  pub filled_exact : Exact I filled
  unfolding all from
  filled_exact = record { no_edge = λ d f t h. none d f t; best_is = λ d s t h. top d s t; run_is = λ d s t h. ran d s t }
    where
      none : (d : Dir) (f : Flag) (t : ℕ) → filled d f 0 t ≡ 0
      none hor f zero = refl
      none hor f (suc t) = refl
      none ver f zero = refl
      none ver f (suc t) = refl

      ran : (d : Dir) (s t : ℕ) → filled d run (suc s) t
          ≡ run_word (owner I d s t) (λ k. from I filled k d s t) (λ k. only (arrival I d s t) k (filled d run s t)) (I.len d s)
      ran hor s zero = refl
      ran hor s (suc t) = refl
      ran ver s zero = refl
      ran ver s (suc t) = refl

      top : (d : Dir) (s t : ℕ) → filled d best (suc s) t ≡ best_of (owner I d s t) (all filled d s t) (filled d run (suc s) t) (I.len d s)
      top hor s zero = refl
      top hor s (suc t) = refl
      top ver s zero = refl
      top ver s (suc t) = refl
