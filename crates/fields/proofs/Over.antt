-- Bytes over the front of a list and behind what was written before: bytes stored in their place, the rest of a slice that is lent to a writer, and
-- one writer behind another.
use mathlib.Core.Path.{◌≡◌, refl, sym, ap, ◌∙◌}
use mathlib.Core.List.{List, [], ◌++◌, append_assoc, append-nil}
use Prim.Native.Nat.{ℕ, ◌+◌, ◌-◌, ◌≤◌}
use native.Mathlib.Omega.{arith}
use lib.ListN.{length, take, drop, take-append-drop, length-append, length-take, length-drop, drop_of_length-le}
use lib.Seq.{take-append_seam, drop-append_seam, take-append-add, drop-append-add, drop-drop, take_all, length-take-le}
use borrow.Rule.Slice.PartMut.{mid_of, post_of, put_mid}
use Rattle.fields.specs.Bytes.{over, behind, Wrote}

-- behind no bytes is over the front
pub behind_none : (bs xs : List ℕ) → behind 0 bs xs ≡ over bs xs
unfolding behind
behind_none bs xs = refl

-- bytes stored in their place
pub stored_behind : (at n : ℕ) (bs xs zs : List ℕ) → zs ≡ bs → n ≡ length bs → put_mid at n xs zs ≡ behind at bs xs
unfolding over behind
stored_behind at n bs xs zs e h = rw (e, h) refl

-- `&mut ys[at..]`, lent to a writer that left zs there
pub lent_behind : (at : ℕ) (bs ys zs : List ℕ) → zs ≡ over bs (mid_of at (length ys - at) ys) → put_mid at (length ys - at) ys zs ≡ behind at bs ys
unfolding behind
lent_behind at bs ys zs e =
    let all : length (drop at ys) ≤ length ys - at = simp length-drop (omega arith) in
    let mid : mid_of at (length ys - at) ys ≡ drop at ys = take_all (length ys - at) (drop at ys) all in
    let post : post_of at (length ys - at) ys ≡ [] = drop_of_length-le (drop at ys) all in
    rw (e, mid, post, append-nil)

-- bytes behind bytes that were written over the front
pub next_over : (bs cs xs : List ℕ) → behind (length bs) cs (over bs xs) ≡ over (bs ++ cs) xs
unfolding over behind
next_over bs cs xs = rw (take-append_seam, drop-append_seam, drop-drop, length-append, append_assoc)

-- behind the bytes of a list and some of what follows them
behind_behind : (ds cs xs : List ℕ) (n : ℕ) → behind (length ds + n) cs (ds ++ xs) ≡ ds ++ behind n cs xs
unfolding behind
behind_behind ds cs xs n = rw (take-append-add, drop-append-add, append_assoc)

-- and behind bytes that were written behind others
pub next_behind : (at : ℕ) (bs cs xs : List ℕ) → at ≤ length xs → behind (at + length bs) cs (behind at bs xs) ≡ behind at (bs ++ cs) xs
unfolding behind
next_behind at bs cs xs h =
    ap (λ n. behind (n + length bs) cs (take at xs ++ over bs (drop at xs))) (sym (length-take-le at xs h))
    ∙ behind_behind (take at xs) cs (over bs (drop at xs)) (length bs)
    ∙ ap (λ l. take at xs ++ l) (next_over bs cs (drop at xs))

-- a field that a call wrote behind the bytes before it
pub next : (bs cs xs : List ℕ) {ys zs : List ℕ} → ys ≡ over bs xs → zs ≡ behind (length bs) cs ys → zs ≡ over (bs ++ cs) xs
next bs cs xs p q = q ∙ rw p (next_over bs cs xs)

-- `&mut ys[at..]` lent to a writer, where bs were written before
pub wrote_next : (bs cs xs ys zs : List ℕ) (at n : ℕ) → at ≡ length bs → ys ≡ over bs xs → Wrote cs (mid_of at (length ys - at) ys) zs n
    → Wrote (bs ++ cs) xs (put_mid at (length ys - at) ys zs) (at + n)
wrote_next bs cs xs ys zs at n h p w =
    record { bytes = next bs cs xs p (lent_behind at cs ys zs w.bytes ∙ rw h); size = rw (h, w.size, length-append) }

-- ---- what is left to write

-- Writing `rest` behind the first `at` bytes of ys completes writing `all` over xs.
pub record Rest (all rest xs ys : List ℕ) (at : ℕ) : Type 0 where
  pub room : length all ≤ length xs
  pub size : at + length rest ≡ length all
  pub same : length ys ≡ length xs
  pub done : behind at rest ys ≡ over all xs

-- at first all is left
pub rest_all : (all xs : List ℕ) → length all ≤ length xs → Rest all all xs xs 0
rest_all all xs h = record { room = h; size = omega arith; same = refl; done = behind_none all xs }

-- writing keeps the length
behind_length : (at : ℕ) (bs xs : List ℕ) → at + length bs ≤ length xs → length (behind at bs xs) ≡ length xs
unfolding over behind
behind_length at bs xs h = simp (length-append, length-take, length-drop) (omega arith)

module _ (all bs cs xs ys zs : List ℕ) (at n : ℕ) (r : Rest all (bs ++ cs) xs ys at) (w : Wrote bs (mid_of at (length ys - at) ys) zs n) where
  -- the next bytes, written into the rest of ys
  pub rest_next : Rest all cs xs (put_mid at (length ys - at) ys zs) (at + n)
  rest_next =
      let e = lent_behind at bs ys zs w.bytes in
      let f : at + length bs ≤ length ys = omega (arith, r.size, r.same, r.room, length-append bs cs) in
      record {
        room = r.room;
        size = omega (arith, r.size, w.size, length-append bs cs);
        same = ap length e ∙ behind_length at bs ys f ∙ r.same;
        done = rw (e, w.size) (next_behind at bs cs ys (omega arith) ∙ r.done);
      }

-- nothing is left
pub rest_none : (all xs ys : List ℕ) (at : ℕ) → Rest all [] xs ys at → Wrote all xs ys at
unfolding over behind
rest_none all xs ys at r = record { bytes = sym (take-append-drop at ys) ∙ r.done; size = omega (arith, r.size) }
