-- Congruence modulo suc q, on plain numbers that are never reduced inside a law.
--
--   Cong q a b      a and b leave the same remainder modulo suc q; q itself stands for minus one there
--   Agree q n f g   f and g are congruent at each of the n places
--
-- What this file is for: laws speak of remainders without dividing. Minus a is q * a, so every step is a sum of products.
use Rattle.std.specs.Prelude.{◌≡◌, ℕ, suc, ◌+◌, ◌*◌, ◌<◌}

pub record Cong (q a b : ℕ) : Type 0 where
  pub k : ℕ
  pub l : ℕ
  pub eq : a + suc q * k ≡ b + suc q * l

abbrev pub Agree : (q n : ℕ) (f g : ℕ → ℕ) → Type 0
Agree q n f g = (j : ℕ) → j < n → Cong q (f j) (g j)
