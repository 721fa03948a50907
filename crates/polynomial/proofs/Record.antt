-- Flat records: where their coefficients stand, and from groups of one total degree to columns of powers of Y.
--
--   value-strip   the value of a record in X is that of the polynomial with its bytes as coefficients
--   value-rows    the value of a record in X and Y is that, at y, of the polynomial in Y that x leaves
--   value-places  the same by the places of the coefficients
--   start-next    the groups follow one another
--   start-below   a group's places are before those of a higher degree
--   start_up      a record of a lower degree has no more places
--   start-apart   no place is in two groups
--   place-below   the coefficients of total degree below k stand before the group of degree k
--   placed        in every place of a record stands a coefficient
--
-- What this file is for: a record is read and written place by place, and its value is worked out column by column. Assumes
-- nothing.
use mathlib.Core.Path.{◌≡◌, sym, ap, ◌∙◌}
use mathlib.Core.List.{List}
use Prim.Native.Nat.{ℕ, zero, suc, ◌+◌, ◌*◌, ◌-◌, ◌%◌, ◌^◌, ◌≤◌, ◌<◌}
use native.Mathlib.Omega.{arith}
use native.Mathlib.Decide.{ℕ_discrete, dec_lt}
use native.Mathlib.Numerals.{add-one}
use native.Mathlib.Nat.{le_of_eq}
use Rattle.bounded.specs.Bounded.{at, sum}
use Rattle.bounded.proofs.Sum.{sum-eq, sum_const}
use Rattle.polynomial.specs.Eval.{eval}
use Rattle.polynomial.specs.Record.{start, place, value_x, value_xy, coef, on_row}
use Rattle.polynomial.specs.Sides.{two}
use Rattle.polynomial.specs.Layout.{count}
use Rattle.polynomial.proofs.Poly.{value-eval, sum-place}
use Rattle.polynomial.proofs.Known.{count-mark, start-mark, value-mark-is}

pub value-strip : (p d : ℕ) (F : List ℕ) (x : ℕ) → value_x p d F x ≡ eval (suc d) (at F) x % p
unfolding value_x
value-strip p d F x = ap (λ n. sum n (λ k. at F k * x ^ k) % p) (add-one d)

-- the value of document 01 is that of the row's polynomial
pub value-rows : (p d : ℕ) (R : List ℕ) (x y : ℕ) → value_xy p d R x y ≡ eval (suc d) (on_row d (coef R) x) y % p
value-rows p d R x y = sym (value-mark-is p d R (two x y)) ∙ value-eval 1 p d R (two x y)
    ∙ ap (λ v. v % p) (sum-eq (suc d) λ t _. ap (λ v. v * y ^ t) (sum-eq (suc (d - t)) λ i _. ap (λ m. at R m * x ^ i)
    (omega (arith, start-mark (i + t), sum_const t 1))))

-- the terms by the places of their coefficients
pub value-places : (p d : ℕ) (F : List ℕ) (x y : ℕ) →
    value_xy p d F x y ≡ sum (d + 1) (λ k. sum (k + 1) λ j. at F (start k + j) * (x ^ (k - j) * y ^ j)) % p
unfolding value_xy
value-places p d F x y = ap (λ v. v % p) (sum-eq (d + 1) λ k l. sum-eq (k + 1) λ j m.
    let e : k - j + j ≡ k = omega arith in
    rw e)

-- the groups follow one another
pub start-next : (k : ℕ) → start (suc k) ≡ start k + suc k
start-next k = omega arith

-- and each is before those of higher degrees
pub start-below : (m k t : ℕ) → m < k → t ≤ m → start m + t < start k
start-below m zero t l i = absurd (omega arith)
start-below m (suc k) t l i = elim (ℕ_discrete m k) [
  | yes e ↦ let f : start m ≡ start k = ap start e in omega (arith, start-next k)
  | no e ↦ omega (arith, start-below m k t (omega arith) i, start-next k)
]

-- a record of a lower degree has no more places
pub start_up : (m k : ℕ) → m ≤ k → start m ≤ start k
start_up m k l = elim (ℕ_discrete m k) [
  | yes e ↦ le_of_eq (ap start e)
  | no e ↦ omega (arith, start-below m k 0 (omega arith) (omega arith))
]

-- no place is in two groups
pub start-apart : (k j l i : ℕ) → j ≤ k → i ≤ l → start k + j ≡ start l + i → (k ≡ l) × (j ≡ i)
start-apart k j l i h g e = elim (ℕ_discrete k l) [
  | yes z ↦ let f : start k ≡ start l = ap start z in (z, omega arith)
  | no z ↦ elim (dec_lt k l) [
    | yes b ↦ absurd (omega (arith, start-below k l j b h))
    | no b ↦ absurd (omega (arith, start-below l k i (omega arith) g))
  ]
]

pub place-below : (i t k : ℕ) → i + t < k → place i t < start k
place-below i t k l = start-below (i + t) k t l (omega arith)

-- in every place of a record stands a coefficient
pub placed : (d m : ℕ) → m < start (suc d) → (i t : ℕ) × (i + t ≤ d) × (m ≡ place i t)
placed d m h =
    let (k, t, a, b, e) = sum-place (suc d) (count 1) m (omega (arith, start-mark (suc d))) in
    let s : k - t + t ≡ k = omega (arith, count-mark k) in
    (k - t, t, omega arith, rw s (omega (arith, start-mark k)))
