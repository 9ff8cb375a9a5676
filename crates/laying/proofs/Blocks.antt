-- The bytes for the steps of each run: as many for every run, one run behind the other. What is written for a run leaves those of the other runs.
use mathlib.Core.Path.{◌≡◌, refl, sym, ap, ◌∙◌}
use mathlib.Core.List.{List, [], ◌∷◌}
use Prim.Native.Nat.{ℕ, zero, suc, ◌+◌, ◌*◌, ◌-◌, ◌≤◌, ◌<◌}
use native.Mathlib.Nat.{suc-mul, mul-le-mul_right}
use native.Mathlib.Decide.{dec_le}
use native.Mathlib.Omega.{arith}
use borrow.Rule.Slice.PartMut.{mid_of, put_mid, mid_len, take_put, drop_put}
use lib.ListN.{length, take, drop}
use lib.Seq.{take-take, drop-drop, take_at, drop_at, length-take-le}
use Rattle.table.specs.Side.{Side}
use Rattle.laying.specs.Lease.{Roomy, block_of}

-- a part of a list
take_drop : (n b m : ℕ) (l : List ℕ) → m ≡ n + b → take n (drop b l) ≡ drop b (take m l)
take_drop n zero m l e = let h : n ≡ m = omega arith in ap (λ k. take k l) h
take_drop n (suc b) zero l e = absurd (omega arith)
take_drop zero (suc b) (suc m) [] e = refl
take_drop (suc n) (suc b) (suc m) [] e = refl
take_drop n (suc b) (suc m) (x ∷ l) e = take_drop n b m l (omega arith)

module _ (xs ys : Side) (n stride : ℕ) (bytes : List ℕ) (R : Roomy xs ys n stride bytes) where
  -- they are there
  pub block_end : (k : ℕ) → k < n → k * stride + stride ≤ length bytes
  block_end k h = omega (arith, suc-mul k stride, mul-le-mul_right stride h, R.room)

  -- lent, they are `stride` bytes
  pub block_length : (k : ℕ) → k < n → length (mid_of (k * stride) (k * stride + stride - k * stride) bytes) ≡ stride
  block_length k h = omega (arith, mid_len (k * stride) (k * stride + stride) bytes (block_end k h))

  -- as many bytes are as good
  pub roomy_kept : (new : List ℕ) → length new ≡ length bytes → Roomy xs ys n stride new
  roomy_kept new e = record { enough = R.enough; room = omega (arith, R.room, e) }

module _ (stride k : ℕ) (old new : List ℕ) (within : k * stride + stride ≤ length old) (size : length new ≡ stride) where
  -- the bytes with other steps of run k, as they are left by a part that is lent
  abbrev pub written : List ℕ
  written = put_mid (k * stride) (k * stride + stride - k * stride) old new

  width : k * stride + stride - k * stride ≡ stride
  width = omega arith

  -- run k has the new ones
  pub block_here : block_of written stride k ≡ new
  block_here =
      ap (take stride) (drop_at (take (k * stride) old) _ (k * stride) (length-take-le (k * stride) old (omega (arith, within)))) ∙ take_at new _ stride size

  -- and every other run its old ones
  pub block_there : (j : ℕ) → ¬ (j ≡ k) → block_of written stride j ≡ block_of old stride j
  block_there j d = go (dec_le (suc j) k)
    where
      go : Dec (suc j ≤ k) → block_of written stride j ≡ block_of old stride j
      go (yes h) =
          let n = stride + j * stride in
          let below : n ≤ k * stride = omega (arith, mul-le-mul_right stride h, suc-mul j stride) in
          take_drop stride (j * stride) n written refl
          ∙ ap (drop (j * stride)) (sym (take-take n (k * stride) written below)
          ∙ ap (take n) (take_put (k * stride) (k * stride + stride - k * stride) old new (omega (arith, within))) ∙ take-take n (k * stride) old below)
          ∙ sym (take_drop stride (j * stride) n old refl)
      go (no h) =
          let e = k * stride + stride in
          let above : suc k ≤ j = omega (arith, d, h) in
          let far : e + (j * stride - e) ≡ j * stride = omega (arith, mul-le-mul_right stride above, suc-mul k stride) in
          ap (take stride)
          (ap (λ n. drop n written) (sym far) ∙ sym (drop-drop (j * stride - e) e written)
          ∙ ap (drop (j * stride - e)) (drop_put (k * stride) e old new (omega arith) within (size ∙ sym width)) ∙ drop-drop (j * stride - e) e old
          ∙ ap (λ n. drop n old) far)
