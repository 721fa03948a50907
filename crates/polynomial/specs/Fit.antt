-- A grid as a whole.
--
--   Fit g           the numbers of the grid fit together, which each holds of itself (Fits.antt)
--   grid_radius g   the full doubt times the distance of two records on it: at most one record costs less
--
-- What this file is for: the radius of a grid, for those who write and measure marks and for those who decode them.
use Rattle.std.specs.Prelude.{ℕ, ◌*◌}
use Rattle.polynomial.specs.declared.Grid.{Grid}
use Rattle.polynomial.specs.Distance.{grid_distance}
use Rattle.polynomial.specs.Fits.{Fits}

abbrev pub Fit : Grid → Type 0
Fit g = Fits g.modulus.p g.x g.a g.y g.b g.d g.full

abbrev pub grid_radius : Grid → ℕ
grid_radius g = g.full * grid_distance g.a g.b g.d
