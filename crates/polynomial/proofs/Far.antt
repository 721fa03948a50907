-- The distance in any number of coordinates, for sides in any order and any points that are apart.
--
--   distance_step      with one coordinate more it is at most that of the lines times that of their leading coefficients
--   same-values        congruent coefficients have congruent values
--   poly_same_or_far   two polynomials of total degree d below the smallest side are the same, or as many cells apart
--   poly_one           so at most one is under the full doubt times the distance
--   others-least       the smallest side times the others are all cells
--
-- What this file is for: a photograph has at most one record under the radius. Assumes nothing.
use mathlib.Core.Logic.{◌⊎◌, inl, inr}
use mathlib.Core.Path.{◌≡◌, ap, ◌∙◌}
use Prim.Native.Nat.{ℕ, zero, suc, ◌*◌, ◌-◌, ◌/◌, ◌%◌, ◌≤◌, ◌<◌, min, max}
use native.Mathlib.Omega.{arith}
use native.Mathlib.Decide.{dec_le}
use native.Mathlib.Nat.{mul-le-mul_left}
use Rattle.bounded.proofs.Sum.{sum-eq, sum_rows, cell_row, cell-column}
use Rattle.field.specs.Congruence.{Cong}
use Rattle.distance.specs.Cost.{cost, hamming}
use Rattle.distance.specs.Doubts.{Doubts}
use Rattle.distance.proofs.Cost.{cost-far}
use Rattle.polynomial.specs.Eval.{Apart}
use Rattle.polynomial.specs.Sides.{cells, least, others, distance}
use Rattle.polynomial.specs.Poly.{Poly, in_cell, word, Same}
use Rattle.polynomial.proofs.Eval.{eval_cong, same_or_far}
use Rattle.polynomial.proofs.Distance.{distance_split}
use Rattle.polynomial.proofs.Lines.{apart, lines-same_or_far}

-- whichever side is the smallest
pub distance_step : (m : ℕ) (n : ℕ → ℕ) (d t : ℕ) → t ≤ d → d < least (suc m) n →
    distance (suc m) n d ≤ (n (suc m) - t) * distance m n (d - t)
distance_step m n d t h k =
    omega (arith, mul-le-mul_left (others m n) (distance_split (least m n) (n (suc m)) d t h k))

pub same-values : (q m d : ℕ) (n : ℕ → ℕ) (x : ℕ → ℕ → ℕ) (g h : Poly m) (c : ℕ) → Same q m d g h →
    Cong q (in_cell m d n x g c) (in_cell m d n x h c)
same-values q zero d n x g h c s = eval_cong (suc d) (x 0 c) λ i l. s i (omega arith)
same-values q (suc m) d n x g h c s = eval_cong (suc d) (x (suc m) (c % n (suc m))) λ t l.
    same-values q m (d - t) n x (g t) (h t) (c / n (suc m)) (s t (omega arith))

-- in how many cells two words differ, line by line
hamming-lines : (q m d : ℕ) (n : ℕ → ℕ) (x : ℕ → ℕ → ℕ) (g h : Poly (suc m)) →
    hamming (cells (suc m) n) (word q (suc m) d n x g) (word q (suc m) d n x h)
    ≡ apart q (cells m n) (n (suc m)) (x (suc m)) (suc d) (λ t. in_cell m (d - t) n x (g t)) (λ t. in_cell m (d - t) n x (h t))
hamming-lines q m d n x g h = sum_rows (cells m n) (n (suc m)) _ ∙ sum-eq (cells m n) λ r _. sum-eq (n (suc m)) λ c l.
    rw (cell_row (n (suc m)) r c l, cell-column (n (suc m)) r c l)

pub poly_same_or_far : {q : ℕ} (m : ℕ) {n : ℕ → ℕ} {x : ℕ → ℕ → ℕ} → ((i : ℕ) → i ≤ m → Apart q (n i) (x i)) → (d : ℕ) →
    d < least m n → (g h : Poly m) → Same q m d g h ⊎ (distance m n d ≤ hamming (cells m n) (word q m d n x g) (word q m d n x h))
poly_same_or_far zero ax d small g h = elim (same_or_far (ax 0 (omega arith)) d g h) [
  | inl s ↦ inl s
  | inr l ↦ inr (omega arith)
]
poly_same_or_far {q} (suc m) {n} {x} ax d small g h =
    elim (lines-same_or_far (ax (suc m) (omega arith)) (cells m n) d (distance (suc m) n d)
    (λ t. in_cell m (d - t) n x (g t)) (λ t. in_cell m (d - t) n x (h t))
    (λ t. Same q m (d - t) (g t) (h t)) (λ t. distance m n (d - t))
    (λ t l. distance_step m n d t l small)
    λ t l. elim (poly_same_or_far m (λ i k. ax i (omega arith)) (d - t) (omega arith) (g t) (h t)) [
      | inl s ↦ inl (s, λ r _. same-values q m (d - t) n x (g t) (h t) r s)
      | inr k ↦ inr k
    ]) [
      | inl s ↦ inl s
      | inr l ↦ inr (omega (arith, hamming-lines q m d n x g h))
    ]

pub poly_one : {q : ℕ} (m : ℕ) {n : ℕ → ℕ} {x : ℕ → ℕ → ℕ} → ((i : ℕ) → i ≤ m → Apart q (n i) (x i)) → (full d : ℕ) →
    d < least m n → (s u : ℕ → ℕ) → Doubts full (cells m n) u → (g h : Poly m) →
    cost full (cells m n) s u (word q m d n x g) < full * distance m n d →
    cost full (cells m n) s u (word q m d n x h) < full * distance m n d → Same q m d g h
poly_one {q} m {n} {x} ax full d small s u du g h i j = elim (poly_same_or_far m ax d small g h) [
  | inl e ↦ e
  | inr f ↦ absurd (omega (
    arith,
    cost-far full (distance m n d) (cells m n) s u (word q m d n x g) (word q m d n x h) du f i,
  ))
]

pub others-least : (m : ℕ) (n : ℕ → ℕ) → others m n * least m n ≡ cells m n
others-least zero n = omega arith
others-least (suc m) n = elim (dec_le (least m n) (n (suc m))) [
  | yes l ↦
      let a : max (least m n) (n (suc m)) ≡ n (suc m) = omega arith in
      let b : min (least m n) (n (suc m)) ≡ least m n = omega arith in
      rw (a, b) (omega (arith, ap (λ v. v * n (suc m)) (others-least m n)))
  | no l ↦
      let a : max (least m n) (n (suc m)) ≡ least m n = omega arith in
      let b : min (least m n) (n (suc m)) ≡ n (suc m) = omega arith in
      rw (a, b) (omega (arith, ap (λ v. v * n (suc m)) (others-least m n)))
]
