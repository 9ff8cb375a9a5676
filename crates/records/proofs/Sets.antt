-- Corners are the first case of the code. Heads of both kinds are one case, and so are routes.
use mathlib.Core.Path.{◌≡◌, refl, sym, ◌∙◌}
use mathlib.Core.Logic.{◌⊎◌, inl, inr}
use mathlib.Core.Bool.{Bool, true, false, cond, ◌&&◌, ◌||◌, true≢false}
use mathlib.Core.List.{List}
use Prim.Native.Nat.{ℕ, ◌≤◌}
use native.Mathlib.Omega.{arith}
use lib.Dec.{eqb, ltb}
use lib.ListN.{length}
use borrow.Author.Tests.{ltb-true, ltb-false, lt-ltb}
use Rattle.network.proofs.Tests.{neither, outcome}
use Rattle.job.specs.Fields.{word2, word4}
use Rattle.records.specs.declared.Record.{Record}
use Rattle.records.specs.declared.Record.TheVariants as rec
use Rattle.records.specs.Records.{head_body, whole, route_body, decoded}

-- one of two kinds, told by the first
either_is : {A : Type 0} (t : Bool → A) (a b : Bool) (rest : A) → a || b ≡ true → t a ≡ cond a (t true) (cond b (t false) rest)
either_is t true b rest h = refl
either_is t false true rest h = refl
either_is t false false rest h = absurd (true≢false (sym h))

-- none of the two
neither_is : {A : Type 0} (x y rest : A) (a b : Bool) → a || b ≡ false → rest ≡ cond a x (cond b y rest)
neither_is x y rest true b h = absurd (true≢false h)
neither_is x y rest false true h = absurd (true≢false h)
neither_is x y rest false false h = refl

-- a corner, in the 8 bytes of a body
abbrev pub corner : List ℕ → Record
corner bytes = whole 8 bytes (rec.Corner (word4 bytes 0) (word4 bytes 4))

module _ (kind : ℕ) (bytes : List ℕ) where
  abbrev pub is_head : Bool
  is_head = eqb kind 0x51 || eqb kind 0x50

  abbrev pub is_route : Bool
  is_route = eqb kind 0x4F || eqb kind 0x4E

  -- the other records
  abbrev pub others : Record
  others = cond (eqb kind 0x43) (corner bytes) (cond (eqb kind 0x5A) (whole 2 bytes (rec.End (word2 bytes 0))) rec.Other)

  pub corner_kind : kind ≡ 0x43 → corner bytes ≡ decoded kind bytes
  unfolding decoded
  corner_kind h = rw h

  pub head_kind : is_head ≡ true → whole 18 bytes (rec.Head (head_body (eqb kind 0x51) bytes)) ≡ decoded kind bytes
  unfolding decoded
  head_kind h = either_is (λ g. whole 18 bytes (rec.Head (head_body g bytes))) (eqb kind 0x51) (eqb kind 0x50) _ h

  pub route_kind : is_head ≡ false → is_route ≡ true → route_body (eqb kind 0x4F) bytes ≡ decoded kind bytes
  unfolding decoded
  route_kind h r = either_is (λ g. route_body g bytes) (eqb kind 0x4F) (eqb kind 0x4E) others r ∙ neither_is _ _ _ (eqb kind 0x51) (eqb kind 0x50) h

  pub other_kind : is_head ≡ false → is_route ≡ false → others ≡ decoded kind bytes
  unfolding decoded
  other_kind h r = neither_is _ _ others (eqb kind 0x4F) (eqb kind 0x4E) r ∙ neither_is _ _ _ (eqb kind 0x51) (eqb kind 0x50) h

-- ---- the body of a route

-- it ends too soon
pub route_short : (grouped : Bool) (b : List ℕ) → ltb (length b) 6 || (grouped && ltb (length b) 8) ≡ true → rec.Other ≡ route_body grouped b
route_short true b h = go (outcome (ltb (length b) 6)) h
  where
    go : (ltb (length b) 6 ≡ true) ⊎ (ltb (length b) 6 ≡ false) → ltb (length b) 6 || ltb (length b) 8 ≡ true → rec.Other ≡ route_body true b
    go (inl t) k = let l = ltb-true (length b) 6 t in rw (lt-ltb (length b) 8 (omega arith))
    go (inr f) k = let l : ltb (length b) 8 ≡ true = rw f at k in rw l
route_short false b h = go (ltb (length b) 6) h refl
  where
    go : (t : Bool) → t || false ≡ true → ltb (length b) 6 ≡ t → rec.Other ≡ route_body false b
    go true k e = rw e
    go false k e = absurd (true≢false (sym k))

-- or is whole
pub route_whole : (grouped : Bool) (b : List ℕ) (number meets corners centre : ℕ) → ltb (length b) 6 || (grouped && ltb (length b) 8) ≡ false
    → number ≡ word2 b 0 → meets ≡ word2 b 2 → corners ≡ word2 b 4 → centre ≡ cond grouped (word2 b 6) 0 → rec.Route grouped number meets corners centre ≡ route_body grouped b
route_whole true b number meets corners centre h n m c e = let (f, g) = neither (ltb (length b) 6) (ltb (length b) 8) h in rw (g, n, m, c, e)
route_whole false b number meets corners centre h n m c e = let (f, g) = neither (ltb (length b) 6) false h in rw (f, n, m, c, e)

-- and has room for its fields
pub route_room : (grouped : Bool) (b : List ℕ) → ltb (length b) 6 || (grouped && ltb (length b) 8) ≡ false → (6 ≤ length b) × (grouped ≡ true → 8 ≤ length b)
route_room true b h = let (f, g) = neither (ltb (length b) 6) (ltb (length b) 8) h in (ltb-false (length b) 6 f, λ e. ltb-false (length b) 8 g)
route_room false b h = let (f, g) = neither (ltb (length b) 6) false h in (ltb-false (length b) 6 f, λ e. absurd (true≢false (sym e)))
