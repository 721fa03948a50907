-- A sound plan as facts.
--
--   IsSide p n           n points are some, at most sixteen, and at most p
--   PointsFrom P a n     n points in the sixteen bytes from byte a on: each below p, strictly rising, the unused bytes 0
--   Sound P              all bytes of the plan P are as in the table "The season plan", row by row
--
-- What this file is for: "a plan is sound when all its bytes are as in this table". It is so exactly when `check_number` is 0.
use Rattle.std.specs.Prelude.{◌≡◌, List, ◌≢◌, ◌+◌, ◌≤◌, ◌<◌, min, ℕ, length}
use Rattle.bounded.specs.Bounded.{at}
use Rattle.field.specs.Prime.{Prime}
use Rattle.definitions.specs.Plan.{plan_bytes, modulus, rows, columns, degree}

pub record IsSide (p n : ℕ) : Type 0 where
  pub some : n ≢ 0
  pub most : n ≤ 16
  pub room : n ≤ p

pub record PointsFrom (P : List ℕ) (a n : ℕ) : Type 0 where
  pub below : (i : ℕ) → i < n → at P (a + i) < modulus P
  pub rising : (i : ℕ) → i + 1 < n → at P (a + i) < at P (a + (i + 1))
  pub unused : (i : ℕ) → n ≤ i → i < 16 → at P (a + i) ≡ 0

pub record Sound (P : List ℕ) : Type 0 where
  pub whole : length P ≡ plan_bytes
  pub prime : Prime (modulus P)
  pub small : modulus P ≤ 251
  pub tall : IsSide (modulus P) (rows P)
  pub wide : IsSide (modulus P) (columns P)
  pub low : degree P < min (rows P) (columns P)
  pub row_points : PointsFrom P 6 (rows P)
  pub column_points : PointsFrom P 22 (columns P)
  pub spare : (i : ℕ) → 38 ≤ i → i < 40 → at P i ≡ 0
