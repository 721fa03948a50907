-- A loop over the elements 1 to k of a list and, beside them, the rows from row 1 on.
--
--   term_taken    the turn after i others takes element i + 1 and row i + 1
--   terms_taken   all k turns were taken
--
-- What this file is for: sums of multiples of rows, whose first term needs no row. Assumes nothing.
use mathlib.Core.Path.{◌≡◌, ap, ◌∙◌}
use mathlib.Core.List.{List, []}
use Prim.Native.Nat.{ℕ, ◌+◌, ◌-◌, ◌<◌}
use native.Mathlib.Omega.{arith}
use denote.Ref.{Bor}
use lib.ListN.{length, get_or, take, drop}
use Rattle.std.proofs.Common.{Option, Some, None, Iter}
use Rattle.std.proofs.iter.Yields.{fronts}
use Rattle.std.proofs.lemmas.Iterator.{zips}
use Rattle.std.proofs.lemmas.List.{get_or-take, get_or-drop, length-take, length-drop}
use Rattle.std.proofs.lemmas.Slice.Zip.{zip_turn, zip_end}
use Rattle.std.specs.declared.iter.Zip.{Zip}
use Rattle.std.specs.Iterator.{Yields}
use Rattle.std.specs.Iterator.Adapters.{zip_first, zip_second}
use Rattle.std.specs.Slice.Iter.{iter_rest}

after_first : {A : Type 0} (n : ℕ) (l : List A) (i : ℕ) (d : A) → i < n → get_or (take n (drop 1 l)) i d ≡ get_or l (i + 1) d
after_first n l i d h = get_or-take n (drop 1 l) i d h ∙ get_or-drop 1 l i d ∙ ap (λ m. get_or l m d) (omega arith)

module _ {A : Type 0} (k : ℕ) (l : List A) (rows : List (List ℕ)) (xs : List (Bor A × Bor (List ℕ)))
    (s t u : Zip (Iter A) (Iter (List ℕ))) (r : Option (Bor A × Bor (List ℕ)))
    (first : iter_rest (zip_first s) ≡ take (k + 1 - 1) (drop 1 l)) (second : iter_rest (zip_second s) ≡ take 15 (drop 1 rows))
    (y : Yields (zips fronts fronts) s xs t) (z : zips fronts fronts t r u) where
  pub term_taken : (p : Bor A × Bor (List ℕ)) → r ≡ Some p →
      (length xs < k) × ((d : A) → p.0.now ≡ get_or l (length xs + 1) d) × (p.1.now ≡ get_or rows (length xs + 1) [])
  term_taken p e =
      let n = k + 1 - 1 in
      let t = zip_turn (take n (drop 1 l)) (take 15 (drop 1 rows)) xs s t u r first second y p e z in
      let h : length xs < n = omega (arith, length-take n (drop 1 l)) in
      let m : length xs < 15 = omega (arith, length-take 15 (drop 1 rows)) in
      (omega arith, λ d. t.2 d ∙ after_first n l (length xs) d h, t.3 [] ∙ after_first 15 rows (length xs) [] m)

  pub terms_taken : r ≡ None → length l ≡ 16 → length rows ≡ 16 → k < 16 → length xs ≡ k
  terms_taken e f g h = omega (
    arith,
    zip_end (take (k + 1 - 1) (drop 1 l)) (take 15 (drop 1 rows)) xs s t u r first second y e z,
    length-drop 1 l,
    length-drop 1 rows,
    length-take (k + 1 - 1) (drop 1 l),
    length-take 15 (drop 1 rows),
  )
