-- The laws of cost, for any full doubt.
--
--   cell-two-values           of two values that differ a cell costs at least twice the full doubt in all
--   cost-two_words            two words cost at least twice the full doubt times the cells in which they differ
--   cost-far                  so of two words that differ in D cells at most one is under full * D
--   cell-doubt, doubts-cost   the doubts are a lower bound of every cost
--   cell_full                 a cell of full doubt costs that, whatever its symbol
--   cell-less                 a term subtracted from symbol and value leaves the cost
--
-- What this file is for: a decoder looks for the word under the full doubt times the distance, and there is at most one.
-- Assumes nothing.
use mathlib.Core.Path.{◌≡◌, refl, sym, ◌∙◌}
use mathlib.Core.Bool.{Bool, true, false, cond}
use Prim.Native.Nat.{ℕ, suc, ◌+◌, ◌*◌, ◌-◌, ◌%◌, ◌≤◌, ◌<◌}
use native.Mathlib.Omega.{arith}
use native.Mathlib.Nat.{mul-le-mul_left, mod-eq_of_lt}
use lib.Dec.{eqb}
use borrow.Author.Tests.{eqb-true, eqb-false}
use Rattle.bounded.specs.Bounded.{sum}
use Rattle.bounded.proofs.Sum.{sum-le, sum-add, sum-mul}
use Rattle.field.specs.Congruence.{Cong}
use Rattle.field.proofs.Congruence.{same, of-mod, to-mod, ~sym, ◌⨾◌, ~add, cancel}
use Rattle.distance.specs.Cost.{cell, cost, differ, hamming}
use Rattle.distance.specs.Doubts.{Doubts}

-- two values of one cell
pub cell-two-values : (full s u v w : ℕ) → u ≤ full → 2 * full * differ v w ≤ cell full s u v + cell full s u w
cell-two-values full s u v w h = go (eqb s v) (eqb s w) (eqb v w) refl refl refl
  where
    go : (a b c : Bool) → eqb s v ≡ a → eqb s w ≡ b → eqb v w ≡ c →
        2 * full * cond c 0 1 ≤ cond a u (2 * full - u) + cond b u (2 * full - u)
    go a b true i j k = omega arith
    go true true false i j k = absurd (eqb-false v w k (sym (eqb-true s v i) ∙ eqb-true s w j))
    go true false false i j k = omega arith
    go false true false i j k = omega arith
    go false false false i j k = omega arith

-- two words
pub cost-two_words : (full n : ℕ) (s u v w : ℕ → ℕ) → Doubts full n u →
    2 * full * hamming n v w ≤ cost full n s u v + cost full n s u w
cost-two_words full n s u v w h = omega (
  arith,
  sum-mul n (2 * full) (λ i. differ (v i) (w i)),
  sum-add n (λ i. cell full (s i) (u i) (v i)) (λ i. cell full (s i) (u i) (w i)),
  sum-le n λ i l. cell-two-values full (s i) (u i) (v i) (w i) (h i l),
)

-- where two words differ in D cells and one is under full * D, the other is over it
pub cost-far : (full D n : ℕ) (s u v w : ℕ → ℕ) → Doubts full n u → D ≤ hamming n v w → cost full n s u v < full * D →
    full * D < cost full n s u w
cost-far full D n s u v w h d c = omega (arith, cost-two_words full n s u v w h, mul-le-mul_left full d)

-- a word costs at least the doubts
pub cell-doubt : (full s u v : ℕ) → u ≤ full → u ≤ cell full s u v
cell-doubt full s u v h = go (eqb s v)
  where
    go : (b : Bool) → u ≤ cond b u (2 * full - u)
    go true = omega arith
    go false = omega arith

pub doubts-cost : (full n : ℕ) (s u v : ℕ → ℕ) → Doubts full n u → sum n u ≤ cost full n s u v
doubts-cost full n s u v h = sum-le n λ i l. cell-doubt full (s i) (u i) (v i) (h i l)

-- a cell of full doubt, as an unread one
pub cell_full : (full s v : ℕ) → cell full s full v ≡ full
cell_full full s v = go (eqb s v)
  where
    go : (b : Bool) → cond b full (2 * full - full) ≡ full
    go true = refl
    go false = omega arith

-- a cell from which the term e was subtracted costs for the rest a what it cost for the whole
pub cell-less : {q : ℕ} (full s s' u a e : ℕ) → s < suc q → s' < suc q → Cong q (s' + e) s →
    cell full s' u (a % suc q) ≡ cell full s u ((a + e) % suc q)
cell-less {q} full s s' u a e l l' c = go (eqb s' (a % suc q)) (eqb s ((a + e) % suc q)) refl refl
  where
    whole : s' ≡ a % suc q → s ≡ (a + e) % suc q
    whole i = sym (mod-eq_of_lt l) ∙ to-mod (~sym c ⨾ ~add (of-mod s' a (mod-eq_of_lt l' ∙ i)) (same {a = e} refl))

    part : s ≡ (a + e) % suc q → s' ≡ a % suc q
    part j = sym (mod-eq_of_lt l') ∙ to-mod (cancel (same {a = e} refl) (c ⨾ of-mod s (a + e) (mod-eq_of_lt l ∙ j)))

    go : (b b' : Bool) → eqb s' (a % suc q) ≡ b → eqb s ((a + e) % suc q) ≡ b' →
        cond b u (2 * full - u) ≡ cond b' u (2 * full - u)
    go true true i j = refl
    go false false i j = refl
    go true false i j = absurd (eqb-false _ _ j (whole (eqb-true _ _ i)))
    go false true i j = absurd (eqb-false _ _ i (part (eqb-true _ _ j)))
