-- Values of a sum of two records.
--
--   value-sum   where the coefficients of H are congruent to the sums of those of F and G, so are its values, at every point and
--               for any number of coordinates
--
-- What this file is for: the marks of a plan are closed under addition, cell by cell. Assumes nothing.
use mathlib.Core.Path.{◌≡◌, refl}
use mathlib.Core.List.{List}
use Prim.Native.Nat.{ℕ, zero, suc, ◌+◌, ◌-◌, ◌%◌, ◌^◌, ◌<◌}
use native.Mathlib.Omega.{arith}
use Rattle.bounded.specs.Bounded.{at, sum}
use Rattle.field.specs.Congruence.{Cong}
use Rattle.field.proofs.Congruence.{same, ◌⨾◌, ~sym, ~add, ~mul-right, to-mod, remainder}
use Rattle.polynomial.specs.Layout.{count, skip, start, group, value}
use Rattle.polynomial.proofs.Poly.{sum_inside}

module _ {q : ℕ} where
  -- sums of terms that are sums
  sums : (n : ℕ) (f g : ℕ → ℕ) {h : ℕ → ℕ} → ((i : ℕ) → i < n → Cong q (h i) (f i + g i)) → Cong q (sum n h) (sum n f + sum n g)
  sums zero f g e = same refl
  sums (suc n) f g e = ~add (sums n f g λ i l. e i (omega arith)) (e n (omega arith)) ⨾ same (omega arith)

  groups : (m k : ℕ) (f g : ℕ → ℕ) {h : ℕ → ℕ} (z : ℕ → ℕ) → ((i : ℕ) → i < count m k → Cong q (h i) (f i + g i)) →
      Cong q (group m k h z) (group m k f z + group m k g z)
  groups zero k f g z e = ~mul-right (z 0 ^ k) (e 0 (omega arith)) ⨾ same (omega arith)
  groups (suc m) k f g z e = sums (suc k) _ _ λ j l.
      ~mul-right (z (suc m) ^ j) (groups m (k - j) (λ i. f (skip m k j + i)) (λ i. g (skip m k j + i)) z
      λ i h. e (skip m k j + i) (sum_inside (suc k) (λ j. count m (k - j)) j i l h))
      ⨾ same (omega arith)

  pub value-sum : (m d : ℕ) (F G H : List ℕ) (z : ℕ → ℕ) →
      ((i : ℕ) → i < start m (d + 1) → Cong q (at H i) (at F i + at G i)) →
      value m (suc q) d H z ≡ (value m (suc q) d F z + value m (suc q) d G z) % suc q
  unfolding value
  value-sum m d F G H z e = to-mod (
      sums (d + 1) _ _ (λ k l. groups m k _ _ z λ i h. e (start m k + i) (sum_inside (d + 1) (count m) k i l h))
      ⨾ ~sym (~add (remainder _) (remainder _))
      )
