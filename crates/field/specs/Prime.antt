-- Primes.
--
--   divided p n     one of the numbers from 2 to n + 1 divides p
--   is_prime p      the test by trial division: p is 2 or more, and no number from 2 to p - 1 divides it
--   Prime p         the same as facts
--   Inverse p a r   r is the inverse of a modulo p: below p, and r a leaves 1
--   Inverses p t    t is 251 numbers: entry 0 is 0, and those at 1 .. p - 1 are the inverses of their places modulo p
--
-- What this file is for: the fields of document 01 are those of a prime modulus.
use Rattle.std.specs.Prelude.{◌≡◌, Bool, not, ◌&&◌, List, ◌≢◌, ℕ, ◌+◌, ◌*◌, ◌-◌, ◌%◌, ◌≤◌, ◌<◌, eqb, leb, length}
use Rattle.bounded.specs.Bounded.{at, any}

abbrev pub divided : ℕ → ℕ → Bool
divided p n = any n λ i. eqb (p % (2 + i)) 0

unfoldable pub is_prime : ℕ → Bool
is_prime p = leb 2 p && not (divided p (p - 2))

pub record Prime (p : ℕ) : Type 0 where
  pub least : 2 ≤ p
  pub alone : (a : ℕ) → 2 ≤ a → a < p → p % a ≢ 0

pub record Inverse (p a r : ℕ) : Type 0 where
  pub below : r < p
  pub one : r * a % p ≡ 1

pub record Inverses (p : ℕ) (t : List ℕ) : Type 0 where
  pub size : length t ≡ 251
  pub zero : at t 0 ≡ 0
  pub each : (a : ℕ) → 0 < a → a < p → Inverse p a (at t a)
