-- The laws of polynomials by coefficients.
--
--   eval-one      one coefficient
--   eval_front    the first coefficient taken off: a 0 + x times the rest
--   eval_lead     the last one leads
--   eval-minus    a sum with a multiple
--   eval-short    coefficients that are 0 do not count
--   eval_cong     congruent coefficients have congruent values
--   same_or_far   two polynomials of degree at most k are the same, or their values differ in n - k places
--
-- What this file is for: the decoders compare words by the coefficients that they come from. The last law is the distance of the
-- strip's code. Assumes nothing.
use mathlib.Core.Logic.{◌≢◌, ◌⊎◌, inl, inr}
use mathlib.Core.Path.{◌≡◌, refl, ap, ◌∙◌}
use mathlib.Core.Bool.{Bool, true, false, cond}
use Prim.Native.Nat.{ℕ, zero, suc, ◌+◌, ◌*◌, ◌-◌, ◌^◌, ◌≤◌, ◌<◌}
use native.Mathlib.Omega.{arith}
use native.Mathlib.Decide.{ℕ_discrete, dec_le}
use native.Mathlib.Nat.{pow-zero, pow-succ', zero-mul}
use lib.Dec.{eqb}
use borrow.Author.Tests.{eqb-true}
use Rattle.bounded.specs.Bounded.{sum}
use Rattle.bounded.proofs.Sum.{sum-eq, sum-add, sum_const, sum-short}
use Rattle.field.specs.Congruence.{Cong}
use Rattle.field.proofs.Congruence.{same, of-mod, ◌⨾◌, ~add, ~mul, less, rest, difference}
use Rattle.distance.specs.Cost.{hamming}
use Rattle.polynomial.specs.Eval.{eval, values, Apart}
use Rattle.polynomial.specs.Lead.{Lead, con, up}
use Rattle.polynomial.proofs.Roots.{roots}

pub eval-one : (a : ℕ → ℕ) (x : ℕ) → eval 1 a x ≡ a 0
eval-one a x = omega (arith, ap (λ t. a 0 * t) (pow-zero x))

pub eval_front : (k : ℕ) (a : ℕ → ℕ) (x : ℕ) → eval (suc k) a x ≡ a 0 + x * eval k (λ i. a (suc i)) x
eval_front zero a x = omega (arith, ap (λ t. a 0 * t) (pow-zero x))
eval_front (suc k) a x = omega (arith, eval_front k a x, ap (λ t. a (suc k) * t) (pow-succ' x k))

pub eval_lead : {q n : ℕ} {x : ℕ → ℕ} (k : ℕ) (a : ℕ → ℕ) → Lead q n x k (a k) (λ j. eval (suc k) a (x j))
eval_lead {x} zero a = con λ j l. same (eval-one a (x j))
eval_lead {x} (suc k) a = up (a 0) (eval_lead k λ i. a (suc i)) λ j l. same (eval_front (suc k) a (x j))

-- a sum of one polynomial and a multiple of another, as a difference
pub eval-minus : (m k : ℕ) (a b : ℕ → ℕ) (x : ℕ) → eval k (λ i. a i + m * b i) x ≡ eval k a x + m * eval k b x
eval-minus m zero a b x = omega arith
eval-minus m (suc k) a b x = omega (arith, eval-minus m k a b x)

-- coefficients that are 0 from i on
pub eval-short : (i k : ℕ) (a : ℕ → ℕ) (x : ℕ) → i ≤ k → ((l : ℕ) → i ≤ l → a l ≡ 0) → eval k a x ≡ eval i a x
eval-short i k a x h z = sum-short i k (λ l. a l * x ^ l) h λ l m. ap (λ t. t * x ^ l) (z l m) ∙ zero-mul (x ^ l)

pub eval_cong : {q : ℕ} (k : ℕ) {a b : ℕ → ℕ} (x : ℕ) → ((i : ℕ) → i < k → Cong q (a i) (b i)) → Cong q (eval k a x) (eval k b x)
eval_cong zero x h = same refl
eval_cong (suc k) {a} {b} x h =
    ~add (eval_cong k x λ i l. h i (omega arith)) (same (omega arith) ⨾ ~mul (x ^ k) (h k (omega arith)) ⨾ same (omega arith))

-- 1 where two numbers are equal
abbrev agree : (v w : ℕ) → ℕ
agree v w = cond (eqb v w) 1 0

agree_one : (v w : ℕ) → agree v w + cond (eqb v w) 0 1 ≡ 1
agree_one v w = go (eqb v w)
  where
    go : (b : Bool) → cond b 1 0 + cond b 0 1 ≡ 1
    go true = refl
    go false = refl

agree_eq : (v w : ℕ) → agree v w ≢ 0 → v ≡ w
agree_eq v w = go (eqb v w) refl
  where
    go : (b : Bool) → eqb v w ≡ b → ◌≢◌ {A = ℕ} (cond b 1 0) 0 → v ≡ w
    go true e h = eqb-true v w e
    go false e h = absurd (h refl)

module _ {q n : ℕ} {x : ℕ → ℕ} (ax : Apart q n x) where
  -- as many zeros as coefficients: all coefficients are zero
  zero-coefs : (k : ℕ) (a w : ℕ → ℕ) → ((j : ℕ) → j < n → w j ≤ 1) → ((j : ℕ) → j < n → w j ≢ 0 → Cong q (eval k a (x j)) 0) →
      k ≤ sum n w → (i : ℕ) → i < k → Cong q (a i) 0
  zero-coefs zero a w bit z s i l = absurd (omega arith)
  zero-coefs (suc k) a w bit z s i l =
      let top : Cong q (a k) 0 = (roots ax n w (omega arith) (eval_lead k a) bit z s).0 in
      elim (ℕ_discrete i k) [
        | yes e ↦ rw e top
        | no e ↦ zero-coefs k a w bit
            (λ j h m. rest {b = x j ^ k * a k} (same (omega arith)) (z j h m) (~mul (x j ^ k) top ⨾ same (omega arith)))
            (omega arith) i (omega arith)
      ]

  -- the law of one row: two polynomials of degree at most k are the same, or their values differ in n - k places
  pub same_or_far : (k : ℕ) (a b : ℕ → ℕ) →
      ((i : ℕ) → i ≤ k → Cong q (a i) (b i)) ⊎ (n - k ≤ hamming n (values q (suc k) a x) (values q (suc k) b x))
  same_or_far k a b = elim (dec_le (n - k) (hamming n v w)) [
    | yes l ↦ inr l
    | no l ↦ inl λ i h. difference (a i) (b i)
        (zero-coefs (suc k) (λ i. a i + q * b i) (λ j. agree (v j) (w j)) (λ j _. omega (arith, agree_one (v j) (w j)))
        (λ j _ m. same (eval-minus q (suc k) a b (x j)) ⨾ ~add
        (of-mod (eval (suc k) a (x j)) (eval (suc k) b (x j)) (agree_eq (v j) (w j) m)) (same {a = q * eval (suc k) b (x j)} refl)
        ⨾ less (eval (suc k) b (x j)) (omega arith))
        (omega (
          arith,
          sum_const n 1,
          sum-eq n {g = λ j. 1} (λ j _. agree_one (v j) (w j)),
          sum-add n (λ j. agree (v j) (w j)) (λ j. cond (eqb (v j) (w j)) 0 1),
        )) i (omega arith))
  ]
    where
      v : ℕ → ℕ
      v = values q (suc k) a x

      w : ℕ → ℕ
      w = values q (suc k) b x
