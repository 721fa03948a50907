-- What is left of the symbols s, on a lines of b points y, when the terms of Y^k and higher were subtracted, modulo suc q.
--
--   Rest q a b d y k s left found   whatever message g has the coefficients found, of Y^k and higher, what is left and all of g
--                                   make the symbol and the terms of g below Y^k
--
-- What this file is for: what is left after all columns is the symbol less the value.
use Rattle.std.specs.Prelude.{ℕ, suc, ◌+◌, ◌<◌}
use Rattle.field.specs.Congruence.{Cong}
use Rattle.polynomial.specs.Eval.{eval}
use Rattle.grid.specs.Cost.{Agrees}

pub record Rest (q a b d : ℕ) (y : ℕ → ℕ) (k : ℕ) (s left found : ℕ → ℕ → ℕ) : Type 0 where
  pub makes : (g : ℕ → ℕ → ℕ) → Agrees q a d k found g → (r c : ℕ) → r < a → c < b →
      Cong q (left r c + eval (suc d) (λ t. g t r) (y c)) (s r c + eval k (λ t. g t r) (y c))
