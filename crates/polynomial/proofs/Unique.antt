-- Polynomials and costs, for any full doubt.
--
--   cost_cong   congruent coefficients cost the same
--   near-one    at most one polynomial of degree at most k is under full (n - k), for any symbols and doubts: `poly_one` in X
--
-- What this file is for: a strip has at most one record under the radius. Assumes nothing.
use mathlib.Core.Path.{◌≡◌, ap}
use Prim.Native.Nat.{ℕ, suc, ◌*◌, ◌-◌, ◌≤◌, ◌<◌}
use native.Mathlib.Omega.{arith}
use native.Mathlib.Decide.{dec_lt}
use Rattle.bounded.proofs.Sum.{sum-eq}
use Rattle.field.specs.Congruence.{Cong}
use Rattle.field.proofs.Congruence.{to-mod}
use Rattle.distance.specs.Cost.{cell, cost}
use Rattle.distance.specs.Doubts.{Doubts}
use Rattle.polynomial.specs.Eval.{values, Apart}
use Rattle.polynomial.proofs.Eval.{eval_cong}
use Rattle.polynomial.proofs.Far.{poly_one}

-- congruent coefficients, the same cost
pub cost_cong : {q : ℕ} (full n k : ℕ) (y s u : ℕ → ℕ) {w h : ℕ → ℕ} → ((i : ℕ) → i ≤ k → Cong q (w i) (h i)) →
    cost full n s u (values q (suc k) w y) ≡ cost full n s u (values q (suc k) h y)
cost_cong full n k y s u e = sum-eq n λ j _.
    ap (cell full (s j) (u j)) (to-mod (eval_cong (suc k) (y j) λ i l. e i (omega arith)))

pub near-one : {q n : ℕ} {x : ℕ → ℕ} → Apart q n x → (full k : ℕ) (s u : ℕ → ℕ) → Doubts full n u → (v w : ℕ → ℕ) →
    cost full n s u (values q (suc k) v x) < full * (n - k) → cost full n s u (values q (suc k) w x) < full * (n - k) →
    (i : ℕ) → i ≤ k → Cong q (v i) (w i)
near-one {n} {x} ax full k s u du v w l m = elim (dec_lt k n) [
  | yes h ↦ poly_one 0 {n = λ _. n} {x = λ _. x} (λ _ _. ax) full k h s u du v w (omega arith) (omega arith)
  | no h ↦ let e : n - k ≡ 0 = omega arith in absurd (omega (arith, rw e at l))
]
