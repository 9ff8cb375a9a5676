-- Looking for a byte: the place counted from the start of the search is the same counted from each place that was passed.
use mathlib.Core.Path.{◌≡◌, ap, ◌∙◌}
use mathlib.Core.List.{List, ◌∷◌}
use Prim.Native.Nat.{ℕ, suc, ◌+◌, ◌≤◌, ◌<◌}
use native.Mathlib.Numerals.{add-one}
use native.Mathlib.Omega.{arith}
use borrow.Author.Tests.{eq-eqb, ne_eqb}
use lib.ListN.{length, drop, get_or, drop_of_length-le}
use lib.Seq.{drop-cons}
use Rattle.hexadecimal.proofs.Counting.{prefix_len_of_le}
use Rattle.hexadecimal.specs.Lines.{place_in, Stands}

-- c stands there
place_here : (c x : ℕ) (text : List ℕ) → x ≡ c → place_in c (x ∷ text) ≡ 0
unfolding place_in
place_here c x text e = rw (eq-eqb x c e, place_in)

-- c stands further on
place_on : (c x : ℕ) (text : List ℕ) → (x ≡ c → ⊥) → place_in c (x ∷ text) ≡ suc (place_in c text)
unfolding place_in
place_on c x text h = rw (ne_eqb x c h, place_in)

-- c does not stand from `from` on before i
pub record Sought (c : ℕ) (text : List ℕ) (from i : ℕ) : Type 0 where
  pub behind : from ≤ i
  pub within : i ≤ length text
  pub same : from + place_in c (drop from text) ≡ i + place_in c (drop i text)

module _ (c : ℕ) (text : List ℕ) (from i : ℕ) (s : Sought c text from i) where
  -- what is answered
  stands : place_in c (drop i text) ≡ 0 → Stands c text from i
  stands e = record { first = omega (arith, s.same); behind = s.behind; counts = prefix_len_of_le _ _ s.within }

  -- c is found
  pub sought_found : i < length text → get_or text i 0 ≡ c → Stands c text from i
  sought_found h e = stands (ap (place_in c) (drop-cons text i 0 h) ∙ place_here c (get_or text i 0) (drop (suc i) text) e)

  -- the text ends
  pub sought_end : length text ≤ i → Stands c text from (length text)
  unfolding place_in
  sought_end h = let e : length text ≡ i = omega (arith, s.within) in rw e (stands (ap (place_in c) (drop_of_length-le text h)))

  -- another byte is passed
  pub sought_next : i < length text → (get_or text i 0 ≡ c → ⊥) → Sought c text from (i + 1)
  sought_next h n =
      let e : place_in c (drop i text) ≡ suc (place_in c (drop (i + 1) text))
      = ap (place_in c) (drop-cons text i 0 h) ∙ place_on c (get_or text i 0) (drop (suc i) text) n ∙ rw (add-one i) in
      record { behind = omega (arith, s.behind); within = omega arith; same = omega (arith, s.same, e) }
