-- Polynomials by their values at the points x 0 .. x (n - 1), modulo suc q. No coefficient but the leading one is named.
--
--   Lead q n x k c f   the values f are those of a polynomial of degree at most k, with c before the power k;
--                      so `Lead q n x k 0 f` says that its degree is below k
--
-- What this file is for: a decoder that keeps values only still knows degrees.
use Rattle.std.specs.Prelude.{ℕ, zero, suc, ◌+◌, ◌*◌}
use Rattle.field.specs.Congruence.{Agree}

module _ (q n : ℕ) (x : ℕ → ℕ) where
  pub data Lead : ℕ → ℕ → (ℕ → ℕ) → Type 0 where
    con : {c : ℕ} {f : ℕ → ℕ} → Agree q n f (λ j. c) → Lead zero c f
    up : {k c : ℕ} {f g : ℕ → ℕ} (a : ℕ) → Lead k c g → Agree q n f (λ j. a + x j * g j) → Lead (suc k) c f
