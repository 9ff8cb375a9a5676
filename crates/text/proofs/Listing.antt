-- The text of bytes, record by record: the text of the first record, then that of the bytes behind it.
use mathlib.Core.Path.{◌≡◌, refl, sym, ap, ◌∙◌}
use mathlib.Core.List.{List, [], ◌∷◌, ◌++◌, append_assoc, append-nil}
use Prim.Native.Nat.{ℕ, zero, suc, ◌+◌, ◌-◌, ◌≤◌}
use native.Mathlib.Omega.{arith}
use lib.ListN.{length, take, drop, length-drop, drop_of_length-le}
use lib.Seq.{take_all, drop-drop}
use borrow.Rule.Slice.PartMut.{mid_of, put_mid}
use Rattle.records.specs.declared.Record.{Record}
use Rattle.text.specs.declared.Step.{Step}
use Rattle.records.specs.Records.{record_of}
use Rattle.text.specs.Listing.{record_text, record_size, listing_from, listing_of}
use Rattle.text.specs.Listed.{Listed, ListedRecord}
use Rattle.text.proofs.Listed.{listed_none, listed_next, listed_same}
use Rattle.text.proofs.Records.{record_passes}

-- the bytes behind the first record
abbrev behind : List ℕ → List ℕ
behind bytes = drop (record_size (record_of bytes) (length bytes)) bytes

-- it leaves fewer bytes than there were
behind_fewer : (bytes : List ℕ) → length (behind bytes) ≤ length bytes - 1
behind_fewer bytes = omega (arith, length-drop (record_size (record_of bytes) (length bytes)) bytes, (record_passes bytes).some)

-- no bytes, no text
listing_nil : (k : ℕ) (bytes : List ℕ) → length bytes ≤ 0 → listing_from k bytes ≡ []
unfolding listing_from record_text record_size record_of
listing_nil zero bytes h = refl
listing_nil (suc k) [] h = listing_nil k [] h
listing_nil (suc k) (b ∷ bytes) h = absurd (omega arith)

-- more records than bytes change nothing
listing_enough : (j k : ℕ) (bytes : List ℕ) → length bytes ≤ j → length bytes ≤ k → listing_from j bytes ≡ listing_from k bytes
unfolding listing_from
listing_enough zero k bytes h l = sym (listing_nil k bytes h)
listing_enough (suc j) zero bytes h l = listing_nil (suc j) bytes l
listing_enough (suc j) (suc k) bytes h l =
    ap (λ t. record_text (record_of bytes) ++ t)
    (listing_enough j k (behind bytes) (omega (arith, behind_fewer bytes)) (omega (arith, behind_fewer bytes)))

-- the first record, and the rest
pub listing_step : (bytes : List ℕ) → listing_of bytes ≡ record_text (record_of bytes) ++ listing_of (behind bytes)
unfolding listing_from listing_of
listing_step bytes =
    listing_enough (length bytes) (suc (length bytes)) bytes (omega arith) (omega arith)
    ∙ ap (λ t. record_text (record_of bytes) ++ t)
    (listing_enough (length bytes) (length (behind bytes)) (behind bytes) (omega (arith, behind_fewer bytes)) (omega arith))

-- ---- one record

-- the case of a record
pub record_listed : (bytes xs ys : List ℕ) (r : Record) (s : Step) → record_of bytes ≡ r → Listed (record_text r) xs ys s.written → s.read ≡ record_size r (length bytes)
    → ListedRecord bytes xs ys s
record_listed bytes xs ys r s e t n = record { text = rw e t; read = rw e n }

-- ---- the loop

-- The records up to `read` are listed; their text and that of the other bytes is the text of all.
pub record Listing (plan xs ys : List ℕ) (read written : ℕ) : Type 0 where
  pub done : List ℕ
  pub most : read ≤ length plan
  pub same : length ys ≡ length xs
  pub text : Listed done xs ys written
  pub rest : done ++ listing_of (drop read plan) ≡ listing_of plan

-- at first nothing is listed
pub listing_none : (plan xs : List ℕ) → Listing plan xs xs 0 0
listing_none plan xs = record { done = []; most = omega arith; same = refl; text = listed_none xs; rest = refl }

-- a record passes over no more bytes than there are
pub step_most : (bytes xs ys : List ℕ) (s : Step) → ListedRecord bytes xs ys s → s.read ≤ length bytes
step_most bytes xs ys s w = omega (arith, w.read, (record_passes bytes).most)

-- and over some, where there are any
pub step_some : (bytes xs ys : List ℕ) (s : Step) → ListedRecord bytes xs ys s → length bytes - s.read ≤ length bytes - 1
step_some bytes xs ys s w = omega (arith, w.read, (record_passes bytes).some)

module _ (plan xs ys zs : List ℕ) (read written : ℕ) (i : Listing plan xs ys read written) (s : Step)
    (w : ListedRecord (take (length plan - read) (drop read plan)) (mid_of written (length ys - written) ys) zs s) where
  -- what is lent are the bytes from `read` on
  lent : take (length plan - read) (drop read plan) ≡ drop read plan
  lent = take_all (length plan - read) (drop read plan) (omega (arith, length-drop read plan))

  -- the next record is listed
  pub listing_next : Listing plan xs (put_mid written (length ys - written) ys zs) (read + s.read) (written + s.written)
  listing_next =
      let v = rw lent at w in
      let n = step_most (drop read plan) _ _ s v in
      let t = listed_next i.done (record_text (record_of (drop read plan))) xs ys zs written s.written i.text v.text in
      record {
        done = i.done ++ record_text (record_of (drop read plan));
        most = omega (arith, i.most, n, length-drop read plan);
        same = listed_same _ _ _ _ t;
        text = t;
        rest =
            append_assoc i.done (record_text (record_of (drop read plan))) (listing_of (drop (read + s.read) plan))
            ∙ ap (λ l. i.done ++ (record_text (record_of (drop read plan)) ++ listing_of l)) (sym (drop-drop s.read read plan) ∙ ap (λ k. drop k (drop read plan)) v.read)
            ∙ ap (λ l. i.done ++ l) (sym (listing_step (drop read plan)))
            ∙ i.rest;
      }

-- no byte is left
pub listing_end : (plan xs ys : List ℕ) (read written : ℕ) → Listing plan xs ys read written → length plan ≤ read → Listed (listing_of plan) xs ys written
unfolding listing_of listing_from
listing_end plan xs ys read written i h =
    let e : i.done ≡ listing_of plan = sym (append-nil i.done) ∙ rw (drop_of_length-le plan h) at i.rest in
    rw e at i.text
