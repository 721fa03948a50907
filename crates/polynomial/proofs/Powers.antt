-- The laws of rows of powers, and of the sums of their multiples.
--
--   zero-rows                   rows of zeros
--   powers-less                 the powers up to a degree serve a lower one
--   powers-start, start-rows, start-points
--                               the first two rows are all ones and the points
--   powers_step                 the product of two rows has the sum of their powers
--   terms rows w i j            the first i terms at point j, by the rows and the coefficients w, not reduced
--   terms_first, terms_more     the first, and one term more, as a loop makes them
--   terms_row, term_fits        the sums are small, and one term more can be added
--   terms_values                reduced, they are the polynomial's values
--
-- What this file is for: values at sixteen points at once; a sum of sixteen terms stays below 2^24, and is reduced once.
-- Assumes nothing.
use mathlib.Core.Path.{◌≡◌, refl, sym, ap, ◌∙◌}
use mathlib.Core.List.{List, []}
use Prim.Native.Nat.{ℕ, zero, suc, ◌+◌, ◌*◌, ◌-◌, ◌%◌, ◌^◌, ◌≤◌, ◌<◌}
use native.Mathlib.Omega.{arith}
use native.Mathlib.Nat.{le_of_lt, mod-eq_of_lt, pow-zero, pow-suc}
use lib.ListN.{get_or, set, replicate, length-set, get_or-replicate}
use lib.Seq.{get_or-set_same}
use lib.Pow.{pow-add}
use Rattle.bounded.specs.Bounded.{at, sum}
use Rattle.bounded.proofs.Sum.{sum-le, sum_const, sum_more}
use Rattle.bounded.proofs.Tab.{length-tab, tab-is, tab-eq}
use Rattle.field.specs.Congruence.{Cong}
use Rattle.field.specs.Row.{row, Row}
use Rattle.field.proofs.Congruence.{same, ◌⨾◌, ~add, ~mul, ~mul-right, cong_mod}
use Rattle.field.proofs.Loop.{upto_start, upto_step, upto_put, upto_less}
use Rattle.field.proofs.Reciprocal.{product_fits}
use Rattle.field.proofs.Row.{row_at, row_of, result_row, result_cong}
use Rattle.polynomial.specs.Eval.{eval}
use Rattle.polynomial.specs.Powers.{Rows, Powers}

pub zero-rows : {p : ℕ} → 0 < p → Rows p (replicate 16 (replicate {A = ℕ} 16 0))
zero-rows h = record {
  size = refl;
  done = λ t l. rw (get_or-replicate 16 t (replicate {A = ℕ} 16 0) [] l)
      (row_of h refl λ j k. rw (get_or-replicate {A = ℕ} 16 j 0 0 k) h);
}

pub powers-less : (p : ℕ) (x : List ℕ) {d k : ℕ} {rows : List (List ℕ)} → k ≤ d → Powers p x d rows → Powers p x k rows
powers-less p x h P = upto_less (omega arith) P

-- the powers 0 and 1
ones : {p : ℕ} (x : List ℕ) → 1 < p → replicate 16 1 ≡ row (λ j. at x j ^ 0 % p)
ones {p} x h = tab-is 16 _ (replicate 16 1) refl λ j l.
    get_or-replicate 16 j 1 0 l ∙ sym (ap (λ v. v % p) (pow-zero (at x j)) ∙ mod-eq_of_lt h)

points : {p : ℕ} (x : List ℕ) → Row p x → x ≡ row (λ j. at x j ^ 1 % p)
points {p} x R = tab-is 16 _ x R.size λ j l.
    sym (ap (λ v. v % p) (pow-suc (at x j) 0 ∙ rw (pow-zero (at x j)) (omega arith)) ∙ mod-eq_of_lt (R.small j))

-- any rows of residues with these two set
module _ {p : ℕ} (x : List ℕ) {rows : List (List ℕ)} (h : 1 < p) (X : Row p x) (R : Rows p rows) where
  pub powers-start : Powers p x 1 (set (set rows 0 (replicate 16 1)) 1 x)
  powers-start = upto_step {l = set rows 0 (replicate 16 1)} x (omega arith) (points x X)
      (upto_step {l = rows} (replicate 16 1) (omega arith) (ones x h) (upto_start R.size))

  pub start-rows : Rows p (set (set rows 0 (replicate 16 1)) 1 x)
  start-rows = upto_put {i = 1} x (omega arith) X
      (upto_put {i = 0} (replicate 16 1) (omega arith) (result_row _ (omega arith) (ones x h)) R)

  -- the points are found in row 1
  pub start-points : get_or (set (set rows 0 (replicate 16 1)) 1 x) 1 [] ≡ x
  start-points = get_or-set_same (set rows 0 (replicate 16 1)) 1 x []
      (omega (arith, length-set rows 0 (replicate 16 1), R.size))

pub powers_step : {p : ℕ} (h k : ℕ) (x : List ℕ) {v w l : List ℕ} → 0 < p → v ≡ row (λ j. at x j ^ h % p) →
    w ≡ row (λ j. at x j ^ k % p) → l ≡ row (λ j. at v j * at w j % p) → l ≡ row (λ j. at x j ^ (h + k) % p)
powers_step h k x {w} z e f g = g ∙ tab-eq 16 λ j i. cong_mod z
    (~mul-right (at w j) (result_cong _ z e j i) ⨾ ~mul (at x j ^ h) (result_cong _ z f j i) ⨾ same (sym (pow-add (at x j) h k)))

-- the terms of the values at point j, by the rows and the coefficients w, not reduced: the first is its coefficient, since the
-- power 0 is 1
abbrev term : (rows : List (List ℕ)) (w : ℕ → ℕ) (t j : ℕ) → ℕ
term rows w zero j = w 0
term rows w (suc t) j = w (suc t) * at (get_or rows (suc t) []) j

abbrev pub terms : (rows : List (List ℕ)) (w : ℕ → ℕ) (i j : ℕ) → ℕ
terms rows w i j = sum i λ t. term rows w t j

-- the sums at all points as a loop makes them: the first term, and one more
pub terms_first : (rows : List (List ℕ)) (w : ℕ → ℕ) {v : ℕ} → v ≡ w 0 → replicate 16 v ≡ row (terms rows w 1)
terms_first rows w {v} e = tab-is 16 (terms rows w 1) (replicate 16 v) refl λ j k.
    omega (arith, e, get_or-replicate 16 j v 0 k)

pub terms_more : (rows : List (List ℕ)) (w : ℕ → ℕ) (i : ℕ) {s l v : List ℕ} {c : ℕ} → 0 < i → s ≡ row (terms rows w i) →
    c ≡ w i → v ≡ get_or rows i [] → l ≡ row (λ j. at s j + c * at v j) → l ≡ row (terms rows w (i + 1))
terms_more rows w zero h e g k f = absurd (omega arith)
terms_more rows w (suc i) h e g k f = f ∙ rw (e, g, k)
    (tab-eq 16 λ j k. omega (arith, row_at (terms rows w (suc i)) j k, sum_more (suc i) (λ t. term rows w t j)))

-- each term is a residue or a product of two, so that the sums are small, and one term more can be added
module _ {p : ℕ} {rows : List (List ℕ)} {w : ℕ → ℕ} (h : p ≤ 251) (R : Rows p rows) (W : (t : ℕ) → t < 16 → w t < p) where
  terms_most : (i j : ℕ) → i ≤ 16 → terms rows w i j ≤ i * 62750
  terms_most i j l = omega (arith, sum-le i {g = λ t. 62750} each, sum_const i 62750)
    where
      each : (t : ℕ) → t < i → term rows w t j ≤ 62750
      each zero k = omega (arith, W 0 (omega arith))
      each (suc t) k = let s : suc t < 16 = omega arith in product_fits h (le_of_lt (W (suc t) s)) ((R.done (suc t) s).small j)

  pub terms_row : (i : ℕ) {s : List ℕ} → i ≤ 16 → s ≡ row (terms rows w i) → Row 16777216 s
  terms_row i l e = rw e
      (row_of (omega arith) (length-tab 16 (terms rows w i)) λ j k.
      rw (row_at (terms rows w i) j k) (omega (arith, terms_most i j l)))

  pub term_fits : (i : ℕ) {s v : List ℕ} {c : ℕ} → i < 16 → s ≡ row (terms rows w i) → c ≡ w i → v ≡ get_or rows i [] →
      Row 16777216 s × (c < 256) × Row 256 v
  term_fits i l e g f =
      let r = R.done i l in
      (terms_row i (omega arith) e, omega (arith, W i l), rw f (record { size = r.size; small = λ j. omega (arith, r.small j) }))

module _ {p d : ℕ} {rows : List (List ℕ)} (w : ℕ → ℕ) (x : List ℕ) (z : 0 < p) (P : Powers p x d rows) where
  terms_cong : (i j : ℕ) → i ≤ suc d → j < 16 → Cong (p - 1) (terms rows w i j) (eval i w (at x j))
  terms_cong zero j h k = same refl
  terms_cong (suc i) j h k = ~add (terms_cong i j (omega arith) k) (one i (omega arith))
    where
      one : (t : ℕ) → t < suc d → Cong (p - 1) (term rows w t j) (w t * at x j ^ t)
      one zero l = same (rw (pow-zero (at x j)) (omega arith))
      one (suc t) l = ~mul (w (suc t)) (result_cong _ z (P.done (suc t) l) j k)

  -- reduced, they are the values
  pub terms_values : {s l : List ℕ} → s ≡ row (terms rows w (suc d)) → l ≡ row (λ j. at s j % p) →
      l ≡ row (λ j. eval (suc d) w (at x j) % p)
  terms_values e f = f
      ∙ rw e (tab-eq 16 λ j k. cong_mod z (same (row_at (terms rows w (suc d)) j k) ⨾ terms_cong (suc d) j (omega arith) k))
