-- What a reader of strips answers, for n points x, degree k, symbols s, doubts u and the full doubt: the contract on which the
-- strip call, a mark's rows and its columns all rest. suc q is the modulus.
--
--   Strip q full n k x s u found w c
--     sound   where it found one, w are coefficients of a polynomial whose cost is c, under the radius full (n - k)
--     only    whatever polynomial h is under the radius, it found one, and that has the coefficients of h
--
-- What this file is for: a reader that meets it returns the one polynomial under the radius, or there is none.
use Rattle.std.specs.Prelude.{◌≡◌, Bool, true, ℕ, suc, ◌*◌, ◌-◌, ◌≤◌, ◌<◌}
use Rattle.field.specs.Congruence.{Cong}
use Rattle.distance.specs.Cost.{cost}
use Rattle.polynomial.specs.Eval.{values}

pub record Strip (q full n k : ℕ) (x s u : ℕ → ℕ) (found : Bool) (w : ℕ → ℕ) (c : ℕ) : Type 0 where
  pub sound : found ≡ true → (c ≡ cost full n s u (values q (suc k) w x)) × (c < full * (n - k))
  pub only : (h : ℕ → ℕ) → cost full n s u (values q (suc k) h x) < full * (n - k) →
      (found ≡ true) × ((i : ℕ) → i ≤ k → Cong q (w i) (h i))
