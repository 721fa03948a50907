-- Polynomials near the symbols of some cells, those that w marks by 1.
--
--   missed n w s v    how many marked cells have a symbol s other than the value v
--   Near n k w s v    twice these and k are fewer than the marked cells: then the interpolation finds v
--   usable w e j      1 at a marked cell where e is not 0, else 0
--   suspect d e j     not 0 where e is 0 or d is not: there a near polynomial Q / E is missed
--   Refuted g s u w   on the axis g whatever polynomial is near costs the radius or more
--   RefutedBelow g s u t
--                     the same at each level that is a cell's doubt below t, the cells over that level being erased
--
-- What this file is for: what a failed trial says of the cells that have entered, and what all of them say together.
use Rattle.std.specs.Prelude.{cond, List, ℕ, ◌+◌, ◌*◌, ◌≤◌, ◌<◌, eqb}
use Rattle.bounded.specs.Bounded.{at, sum}
use Rattle.distance.specs.Level.{weight}
use Rattle.reed_solomon.specs.declared.axis.Axis.{Axis}
use Rattle.reed_solomon.specs.Axis.{word, spent, strip_radius}

abbrev pub missed : (n : ℕ) (w s v : ℕ → ℕ) → ℕ
missed n w s v = sum n λ j. cond (eqb (s j) (v j)) 0 (w j)

abbrev pub Near : (n k : ℕ) (w s v : ℕ → ℕ) → Type 0
Near n k w s v = 2 * missed n w s v + k < sum n w

abbrev pub usable : (w e : ℕ → ℕ) → ℕ → ℕ
usable w e j = cond (eqb (e j) 0) 0 (w j)

abbrev pub suspect : (d e : ℕ → ℕ) → ℕ → ℕ
suspect d e j = cond (eqb (e j) 0) 1 (d j)

pub record Refuted (g : Axis) (s u w : List ℕ) : Type 0 where
  pub far : (h : ℕ → ℕ) → Near g.n g.k (at w) (at s) (word g h) → strip_radius g ≤ spent g s u (word g h)

pub record RefutedBelow (g : Axis) (s u : List ℕ) (t : ℕ) : Type 0 where
  pub far : (h : ℕ → ℕ) (j : ℕ) → j < g.n → at u j < t → weight g.n (at u j) (at s) (at u) (word g h) + g.k < g.n →
      strip_radius g ≤ spent g s u (word g h)
