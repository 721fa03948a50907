-- A line of a mark, as a row: n points y, symbols s, doubts u and the full doubt, modulo suc q; read as a strip of degree k.
--
--   HandsOn q full n k y s u e v
--                               the cell that the line becomes in the code with one coordinate fewer, symbol e and doubt v at
--                               most its full doubt full (n - k): for the leading coefficient of any polynomial h it costs at
--                               most what h costs in the line
--   Subtracted q n t y e s s'   symbols s, all below the modulus, with the term e Y^t subtracted are s'
--
-- What this file is for: what a line hands on, and what is left of it; the degree step asks no more of a line.
use Rattle.std.specs.Prelude.{ℕ, suc, ◌+◌, ◌*◌, ◌-◌, ◌%◌, ◌^◌, ◌≤◌, ◌<◌}
use Rattle.field.specs.Congruence.{Cong}
use Rattle.distance.specs.Cost.{cell, cost}
use Rattle.polynomial.specs.Eval.{values}

pub record HandsOn (q full n k : ℕ) (y s u : ℕ → ℕ) (e v : ℕ) : Type 0 where
  pub below : v ≤ full * (n - k)
  pub cheap : (h : ℕ → ℕ) → cell (full * (n - k)) e v (h k % suc q) ≤ cost full n s u (values q (suc k) h y)

pub record Subtracted (q n t : ℕ) (y : ℕ → ℕ) (e : ℕ) (s s' : ℕ → ℕ) : Type 0 where
  pub before : (c : ℕ) → c < n → s c < suc q
  pub after : (c : ℕ) → c < n → s' c < suc q
  pub term : (c : ℕ) → c < n → Cong q (s' c + e * y c ^ t) (s c)
