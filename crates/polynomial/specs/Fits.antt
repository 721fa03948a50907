-- A grid whose numbers fit together.
--
--   Fits p x a y b d f      p is prime; at most sixteen points each way, residues, all apart; d is below both sides; the full
--                           doubt f is below 4096, so that the full doubt of a line, f (b - t), is below 65536
--
-- What this file is for: what is so of every grid, by its parts; the struct holds it.
use Rattle.std.specs.Prelude.{List, ℕ, ◌-◌, ◌≤◌, ◌<◌}
use Rattle.bounded.specs.Bounded.{at}
use Rattle.field.specs.Prime.{Prime}
use Rattle.field.specs.Row.{Row}
use Rattle.polynomial.specs.Eval.{Apart}

pub record Fits (p : ℕ) (x : List ℕ) (a : ℕ) (y : List ℕ) (b d f : ℕ) : Type 0 where
  pub prime : Prime p
  pub rows : a ≤ 16
  pub columns : b ≤ 16
  pub row_points : Row p x
  pub column_points : Row p y
  pub rows_apart : Apart (p - 1) a (at x)
  pub columns_apart : Apart (p - 1) b (at y)
  pub low : d < a
  pub narrow : d < b
  pub full : f < 4096
