-- What the decoder of marks returns, for a grid g, symbols s and doubts u: a record, or none.
--
--   left r, cost r   of the record that was found: what it leaves of the symbols, and its cost; nothing and 0 where there is none
--   Outcome g s u r message
--     decoded   the message is the one record under the radius, and the cost is its own; or no record is under the radius
--     remains   where it found one, what is left of each cell is its symbol less the record's value, modulo p
--
-- What this file is for: the contract of `decode`.
use Rattle.std.specs.Prelude.{◌≡◌, true, is_some, Option, Some, None, List, [], ℕ, ◌-◌}
use Rattle.bounded.specs.Bounded.{at}
use Rattle.polynomial.specs.Record.{coef}
use Rattle.polynomial.specs.declared.Grid.{Grid}
use Rattle.grid.specs.Loops.{cell_at}
use Rattle.reed_muller.specs.declared.decoder.Found.{Found}
use Rattle.reed_muller.specs.Mark.{Decoded}
use Rattle.reed_muller.specs.Rest.{Remains}

abbrev pub left : Option Found → List (List ℕ)
left (Some f) = f.left
left None = []

abbrev pub cost : Option Found → ℕ
cost (Some f) = f.cost
cost None = 0

pub record Outcome (g : Grid) (s u : List (List ℕ)) (r : Option Found) (message : List ℕ) : Type 0 where
  pub decoded : Decoded (g.modulus.p - 1) g.full g.a g.b g.d (at g.x) (at g.y) (cell_at s) (cell_at u) (is_some r)
      (coef message) (cost r)
  pub remains : is_some r ≡ true → Remains (g.modulus.p - 1) g.a g.b g.d (at g.x) (at g.y) (cell_at s) (cell_at (left r))
      (coef message)
