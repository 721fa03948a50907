-- Roots: at most as many as the degree.
--
--   roots   a polynomial of degree at most k that is 0 at more than k marked points is 0, and so is its leading coefficient
--
-- What this file is for: the distance of two words, and that the interpolation determines its pairs. Assumes nothing.
use mathlib.Core.Logic.{◌≢◌}
use Prim.Native.Nat.{ℕ, zero, suc, ◌+◌, ◌*◌, ◌≤◌, ◌<◌}
use native.Mathlib.Omega.{arith}
use native.Mathlib.Decide.{ℕ_discrete}
use Rattle.bounded.specs.Bounded.{sum}
use Rattle.field.specs.Congruence.{Cong, Agree}
use Rattle.field.proofs.Congruence.{same, ~sym, ◌⨾◌, ~add, ~mul, rest}
use Rattle.polynomial.specs.Eval.{Apart}
use Rattle.polynomial.specs.Lead.{Lead, con, up}
use Rattle.polynomial.proofs.Lead.{divide}
use Rattle.polynomial.proofs.Points.{cancel_apart}

-- w marks some of the first m points by 1
module _ {q n : ℕ} {x : ℕ → ℕ} (ax : Apart q n x) where
  pub roots : (m : ℕ) {k c : ℕ} {f : ℕ → ℕ} (w : ℕ → ℕ) → m ≤ n → Lead q n x k c f → ((j : ℕ) → j < m → w j ≤ 1) →
      ((j : ℕ) → j < m → w j ≢ 0 → Cong q (f j) 0) → k < sum m w → Cong q c 0 × Agree q n f (λ j. 0)
  roots zero w i F b z s = absurd (omega arith)
  roots (suc m) w i (con h) b z s = elim (ℕ_discrete (w m) 0) [
    | yes e ↦ roots m w (omega arith) (con h) (λ j l. b j (omega arith)) (λ j l. z j (omega arith)) (omega arith)
    | no e ↦ let t = ~sym (h m i) ⨾ z m (omega arith) e in (t, λ j l. h j l ⨾ t)
  ]
  roots (suc m) {f} w i (up {k} a G h) b z s = elim (ℕ_discrete (w m) 0) [
    | yes e ↦ roots m w (omega arith) (up a G h) (λ j l. b j (omega arith)) (λ j l. z j (omega arith)) (omega arith)
    | no e ↦
        let (g, D, d) = divide k m i (up a G h) in
        let t : Cong q (f m) 0 = z m (omega arith) e in
        let r = roots m w (omega arith) D (λ j l. b j (omega arith))
        (λ j l v. cancel_apart ax j m (g j) l i (rest (d j (omega arith)) (z j (omega arith) v) t))
        (omega (arith, b m (omega arith))) in
        (r.0, λ j l. d j l ⨾ ~add t (~mul (x j + q * x m) (r.1 j l)) ⨾ same (omega arith))
  ]
