-- The distance over any set of a lines of b points y.
--
--   apart               in how many cells the terms of g and h below Y^k differ modulo suc q
--   lines-same_or_far   where the coefficients of each power t of Y are the same or differ on E t lines, and D ≤ (b - t) E t, two
--                       polynomials are the same or differ in D cells
--
-- What this file is for: the step from one number of coordinates to the next. By rising powers of Y: a power whose coefficients
-- differ decides, else the lower terms do. Assumes nothing.
use mathlib.Core.Logic.{◌⊎◌, inl, inr}
use mathlib.Core.Bool.{Bool, true, false, cond}
use mathlib.Core.Path.{◌≡◌, refl}
use Prim.Native.Nat.{ℕ, zero, suc, ◌+◌, ◌*◌, ◌-◌, ◌%◌, ◌^◌, ◌≤◌, ◌<◌}
use native.Mathlib.Omega.{arith}
use native.Mathlib.Decide.{ℕ_discrete}
use native.Mathlib.Nat.{mul-le-mul_left}
use lib.Dec.{eqb}
use borrow.Author.Tests.{eqb-true, eqb-false, eq-eqb}
use Rattle.bounded.specs.Bounded.{sum}
use Rattle.bounded.proofs.Sum.{sum-le, sum-mul}
use Rattle.field.specs.Congruence.{Cong, Agree}
use Rattle.field.proofs.Congruence.{of-mod, to-mod, ~mul-right, cancel}
use Rattle.distance.specs.Cost.{differ, hamming}
use Rattle.polynomial.specs.Eval.{eval, values, Apart}
use Rattle.polynomial.proofs.Eval.{same_or_far}

differ-one : (v w : ℕ) → differ v w ≤ 1
differ-one v w = go (eqb v w)
  where
    go : (b : Bool) → cond b 0 1 ≤ 1
    go true = omega arith
    go false = omega arith

-- numbers that differ still do after congruent terms are added
differ-more : {q e f : ℕ} (a b : ℕ) → Cong q e f → differ (a % suc q) (b % suc q) ≤ differ ((a + e) % suc q) ((b + f) % suc q)
differ-more {q} {e} {f} a b c = go (eqb (a % suc q) (b % suc q)) (eqb ((a + e) % suc q) ((b + f) % suc q)) refl refl
  where
    go : (i j : Bool) → eqb (a % suc q) (b % suc q) ≡ i → eqb ((a + e) % suc q) ((b + f) % suc q) ≡ j → cond i 0 1 ≤ cond j 0 1
    go true j p r = omega arith
    go false false p r = omega arith
    go false true p r = absurd (eqb-false _ _ p (to-mod (cancel c (of-mod (a + e) (b + f) (eqb-true _ _ r)))))

-- g t r stands before Y^t on line r
abbrev pub apart : (q a b : ℕ) (y : ℕ → ℕ) (k : ℕ) (g h : ℕ → ℕ → ℕ) → ℕ
apart q a b y k g h = sum a λ r. hamming b (values q k (λ t. g t r) y) (values q k (λ t. h t r) y)

-- S t says that the coefficients of Y^t are the same
module _ {q b : ℕ} {y : ℕ → ℕ} (ay : Apart q b y) (a d D : ℕ) (g h : ℕ → ℕ → ℕ) (S : ℕ → Type 0) (E : ℕ → ℕ)
    (enough : (t : ℕ) → t ≤ d → D ≤ (b - t) * E t) (kind : (t : ℕ) → t ≤ d →
    (S t × Agree q a (g t) (h t)) ⊎ (E t ≤ hamming a (λ r. g t r % suc q) (λ r. h t r % suc q))) where
  -- a line whose coefficients of Y^t differ differs in b - t cells
  line-far : (t r : ℕ) → (b - t) * differ (g t r % suc q) (h t r % suc q)
      ≤ hamming b (values q (suc t) (λ t. g t r) y) (values q (suc t) (λ t. h t r) y)
  line-far t r = elim (same_or_far ay t (λ t. g t r) (λ t. h t r)) [
    | inl s ↦ rw (eq-eqb _ _ (to-mod (s t (omega arith)))) (omega arith)
    | inr l ↦ omega (arith, mul-le-mul_left (b - t) (differ-one (g t r % suc q) (h t r % suc q)))
  ]

  -- where the coefficients of Y^t agree, the lower terms decide
  lower_terms : (t : ℕ) → Agree q a (g t) (h t) → apart q a b y t g h ≤ apart q a b y (suc t) g h
  lower_terms t s = sum-le a λ r l. sum-le b λ c _.
      differ-more (eval t (λ t. g t r) (y c)) (eval t (λ t. h t r) (y c)) (~mul-right (y c ^ t) (s r l))

  below-far : (k : ℕ) → k ≤ suc d → ((t : ℕ) → t < k → S t) ⊎ (D ≤ apart q a b y k g h)
  below-far zero l = inl λ t m. absurd (omega arith)
  below-far (suc t) l = elim (kind t (omega arith)) [
    | inl s ↦ elim (below-far t (omega arith)) [
      | inl r ↦ inl λ t' m. elim (ℕ_discrete t' t) [ yes e ↦ rw e s.0 | no e ↦ r t' (omega arith) ]
      | inr m ↦ inr (omega (arith, lower_terms t s.1))
    ]
    | inr m ↦ inr (omega (
      arith,
      enough t (omega arith),
      mul-le-mul_left (b - t) m,
      sum-mul a (b - t) (λ r. differ (g t r % suc q) (h t r % suc q)),
      sum-le a λ r _. line-far t r,
    ))
  ]

  pub lines-same_or_far : ((t : ℕ) → t ≤ d → S t) ⊎ (D ≤ apart q a b y (suc d) g h)
  lines-same_or_far = elim (below-far (suc d) (omega arith)) [ inl e ↦ inl λ t l. e t (omega arith) | inr m ↦ inr m ]
