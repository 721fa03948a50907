-- The axis g of a strip, with symbols s and doubts u at its points.
--
--   Valid g          the modulus is prime; at most sixteen points, residues and apart; the degree is below their number, and the
--                    full doubt below 65536
--   Received g s u   such an axis, symbols that are residues, and doubts that are at most the full one
--   word g h         the values of a polynomial h of degree at most k at the points
--   spent g s u v    what the values v cost
--   strip_radius g   full (n - k)
--   HoldsOn g s t, FitsOn g s l f
--                    the pairs t interpolate, and f is the polynomial through the k + 1 cells of the least keys l
--
-- What this file is for: what the strip decoder asks of its caller.
use Rattle.std.specs.Prelude.{List, ℕ, suc, ◌*◌, ◌-◌, ◌≤◌, ◌<◌}
use Rattle.bounded.specs.Bounded.{at}
use Rattle.field.specs.Prime.{Prime}
use Rattle.field.specs.Row.{Row}
use Rattle.distance.specs.Cost.{cost}
use Rattle.distance.specs.Doubts.{Doubts}
use Rattle.polynomial.specs.Eval.{values, Apart}
use Rattle.welch_berlekamp.specs.declared.newton.Newton.{Newton}
use Rattle.welch_berlekamp.specs.declared.interpolation.Pairs.{Pairs}
use Rattle.welch_berlekamp.specs.Pairs.{Holds}
use Rattle.welch_berlekamp.specs.Newton.{Fits}
use Rattle.reed_solomon.specs.declared.axis.Axis.{Axis}

pub record Valid (g : Axis) : Type 0 where
  pub prime : Prime g.modulus.p
  pub points : Row g.modulus.p g.x
  pub apart : Apart (g.modulus.p - 1) g.n (at g.x)
  pub most : g.n ≤ 16
  pub low : g.k < g.n
  pub full : g.full < 65536

pub record Received (g : Axis) (s u : List ℕ) : Type 0 where
  pub axis : Valid g
  pub symbols : Row g.modulus.p s
  pub doubts : Doubts g.full g.n (at u)

abbrev pub word : Axis → (ℕ → ℕ) → ℕ → ℕ
word g h = values (g.modulus.p - 1) (suc g.k) h (at g.x)

abbrev pub spent : Axis → (s u : List ℕ) (v : ℕ → ℕ) → ℕ
spent g s u v = cost g.full g.n (at s) (at u) v

abbrev pub strip_radius : Axis → ℕ
strip_radius g = g.full * (g.n - g.k)

abbrev pub HoldsOn : Axis → (s : List ℕ) (t : Pairs) → Type 0
HoldsOn g s t = Holds g.modulus.p g.n g.k g.x s t

abbrev pub FitsOn : Axis → (s l : List ℕ) (f : Newton) → Type 0
FitsOn g s l f = Fits g.modulus.p g.n g.k g.x s l (suc g.k) f
