-- A part of n bytes of a list, from byte a on, as a slice of it is lent.
--
--   part_at       byte i of the part is byte a + i of the list
--   part_length   the part has n bytes where the list reaches that far
--   part_any      a test of the part's bytes is one of n bytes of the list
--   tab_part      a part of a table is a table
--   row_in        row r of a rows of n bytes ends within them
--   row_more      one row more, written in its own part of the lent bytes
--   chunk-at      chunk k of c chunks of n bytes
--
-- What this file is for: what a callee says of the part is said of the list. Assumes nothing.
use mathlib.Core.Path.{◌≡◌, sym, ap, ◌∙◌}
use mathlib.Core.Bool.{Bool}
use mathlib.Core.List.{List, [], ◌++◌, append_assoc}
use Prim.Native.Nat.{ℕ, zero, suc, ◌+◌, ◌*◌, ◌-◌, ◌≤◌, ◌<◌}
use native.Mathlib.Numerals.{add-one}
use native.Mathlib.Omega.{arith}
use native.Mathlib.Nat.{add_comm, suc-mul, add-sub_cancel_left, mul-le-mul_right}
use lib.ListN.{length, get_or, take, drop, length-drop}
use lib.Seq.{get_or-take, get_or-drop, length-take-le, take_at, drop_at, drop-drop}
use borrow.Rule.Slice.PartMut.{put_mid}
use Rattle.std.specs.Simd.{first_chunks}
use Rattle.bounded.specs.Bounded.{at, any, tab}
use Rattle.bounded.proofs.Any.{any-eq}
use Rattle.bounded.proofs.Tab.{length-tab, tab-at, tab-is, tab-append}

pub part_at : (a n : ℕ) (s : List ℕ) (i : ℕ) → i < n → at (take (a + n - a) (drop a s)) i ≡ at s (a + i)
part_at a n s i l = rw (add-sub_cancel_left a n) (get_or-take n (drop a s) i 0 l ∙ get_or-drop a s i 0)

pub part_length : (a n : ℕ) (s : List ℕ) → a + n ≤ length s → length (take (a + n - a) (drop a s)) ≡ n
part_length a n s h = rw (add-sub_cancel_left a n) (length-take-le n (drop a s) (omega (arith, length-drop a s)))

pub part_any : (a n : ℕ) (s : List ℕ) (f : ℕ → Bool) → a + n ≤ length s →
    any (length (take (a + n - a) (drop a s))) (λ i. f (at (take (a + n - a) (drop a s)) i)) ≡ any n λ i. f (at s (a + i))
part_any a n s f h = rw (part_length a n s h) (any-eq n λ i l. ap f (part_at a n s i l))

-- n entries of a table, from entry a on
pub tab_part : (a n m : ℕ) (f : ℕ → ℕ) → a + n ≤ m → take n (drop a (tab m f)) ≡ tab n λ i. f (a + i)
tab_part a n m f l = tab-is n _ _ (length-take-le n _ (omega (arith, length-drop a (tab m f), length-tab m f))) λ i k.
    get_or-take n _ i 0 k ∙ get_or-drop a _ i 0 ∙ tab-at m f (a + i) (omega arith)

-- row r of a rows of n bytes
pub row_in : (r a n : ℕ) → r < a → r * n + n ≤ a * n
row_in r a n h = omega (arith, mul-le-mul_right n h, suc-mul r n)

-- the part from r * n on has come back with row r in it
pub row_more : (n r : ℕ) (f : ℕ → ℕ) (d mark last : List ℕ) → mark ≡ tab (r * n) f ++ drop (r * n) d →
    last ≡ tab n (λ j. f (r * n + j)) →
    put_mid (r * n) (r * n + n - r * n) mark last ≡ tab ((r + 1) * n) f ++ drop ((r + 1) * n) d
row_more n r f d mark last e h =
    rw (
      e,
      h,
      take_at (tab (r * n) f) (drop (r * n) d) (r * n) (length-tab (r * n) f),
      drop_at (tab (r * n) f) (drop (r * n) d) (r * n) (length-tab (r * n) f),
      add-sub_cancel_left,
      drop-drop,
      add-one r,
      suc-mul r n,
      tab-append (r * n) n f,
    )
    (sym (append_assoc (tab (r * n) f) (tab n λ j. f (r * n + j)) (drop (r * n + n) d)))

-- chunk k of a list that is cut into c chunks of n bytes
pub chunk-at : (n c k : ℕ) (s : List ℕ) → k < c → get_or (first_chunks n c s) k [] ≡ take n (drop (k * n) s)
chunk-at n zero k s l = absurd (omega arith)
chunk-at n (suc c) zero s l = let e : 0 * n ≡ 0 = omega arith in rw e
chunk-at n (suc c) (suc k) s l =
    chunk-at n c k (drop n s) (omega arith)
    ∙ ap (take n) (drop-drop (k * n) n s ∙ ap (λ a. drop a s) (add_comm n (k * n) ∙ sym (suc-mul k n)))
