-- The memory that a call leaves.
--
--   put-photo       the symbols of a photograph put into their part, and its flag
--   put-blank       unread symbols put there, and the flag
--   put-started     the three parts of a set that starts
--
-- What this file is for: the parts that callees leave make the definitions' memory. Assumes nothing.
use mathlib.Core.Path.{◌≡◌, sym, ap, ◌∙◌}
use mathlib.Core.List.{List}
use Prim.Native.Nat.{ℕ, ◌+◌, ◌-◌}
use native.Mathlib.Omega.{arith}
use native.Mathlib.Nat.{add-sub_cancel_left}
use lib.ListN.{length, replicate, set, length-replicate}
use borrow.Rule.Slice.PartMut.{put_mid}
use Rattle.lent.specs.Put.{put}
use Rattle.lent.proofs.Put.{put_back, put_parts}
use Rattle.definitions.specs.Sets.{set_bytes, flag, place, blank, none_held, started, added, withdrawn}

pub put-photo : (S s l : List ℕ) (k : ℕ) → l ≡ s →
    set (put_mid (place k) (place k + length s - place k) S l) (flag k) 1 ≡ added S k s
put-photo S s l k h =
    let all : place k + length s - place k ≡ length s = add-sub_cancel_left (place k) (length s) in
    ap (λ l. set l (flag k) 1) (ap (put_mid (place k) (place k + length s - place k) S) h ∙ put_back S s (place k) _ all)

pub put-blank : (S l : List ℕ) (k m : ℕ) → place k + 256 - place k ≡ m → l ≡ replicate m 255 →
    set (put_mid (place k) (place k + 256 - place k) S l) (flag k) 0 ≡ withdrawn S k
unfolding blank
put-blank S l k m e h =
    let all : place k + 256 - place k ≡ 256 = add-sub_cancel_left (place k) 256 in
    let unread : l ≡ replicate 256 255 = h ∙ ap (λ n. replicate n 255) (sym e ∙ all) in
    ap (λ l. set l (flag k) 0) (ap (put_mid (place k) (place k + 256 - place k) S) unread
    ∙ put_back S (replicate 256 255) (place k) _ (all ∙ sym (length-replicate {A = ℕ} 256 255)))

pub put-started : (S P p z u : List ℕ) (n m : ℕ) → length S ≡ set_bytes → length P ≡ 40 →
    p ≡ P → n ≡ 9 → z ≡ replicate n 0 → m ≡ 2304 → u ≡ replicate m 255 →
    put_mid 49 2304 (put_mid 40 9 (put_mid 0 40 S p) z) u ≡ started P
unfolding blank none_held
put-started S P p z u n m s l f g h i j =
    let z-is : z ≡ replicate 9 0 = h ∙ ap (λ n. replicate n 0) g in
    let u-is : u ≡ replicate 2304 255 = j ∙ ap (λ n. replicate n 255) i in
    let z-length : length {A = ℕ} (replicate 9 0) ≡ 9 = length-replicate {A = ℕ} 9 0 in
    let u-length : length {A = ℕ} (replicate 2304 255) ≡ 2304 = length-replicate {A = ℕ} 2304 255 in
    let flags : 40 + length {A = ℕ} (replicate 9 0) ≡ 49 = omega (arith, z-length) in
    let rest : 49 + length {A = ℕ} (replicate 2304 255) ≡ length S = omega (arith, u-length, s) in
    rw (
      f,
      z-is,
      u-is,
      put_back S P 0 40 (sym l),
      put_back (put S 0 P) (replicate 9 0) 40 9 (sym z-length),
      put_back (put (put S 0 P) 40 (replicate 9 0)) (replicate 2304 255) 49 2304 (sym u-length),
    )
    (put_parts S P (replicate 9 0) (replicate 2304 255) 40 49 l flags rest)
