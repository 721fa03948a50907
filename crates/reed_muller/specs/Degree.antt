-- One degree step over any set of lines: a lines of b points y each, symbols s r c and doubts u r c with the full doubt, modulo
-- suc q. On line r the message g has the coefficient g t r before Y^t, t ≤ d. Which g are messages is said by Code, and D is the
-- distance of their words.
--
--   NearMessage .. s g       g is a message, and under the radius full D
--   Left .. k s left found   the invariant of the steps, from Y^d down to Y^k
--     agrees                 every message under the radius has the coefficients found
--     costs                  what is left tells what a message with these coefficients costs
--
-- Two coordinates, the lines being row points x: h i t stands before X^i Y^t, i + t ≤ d.
--
--   Bivariate d x g          g is the message of such a polynomial
--   grid_cost, GridNear, GridLeft
--                            its cost, and the same two for it, with the distance `grid_distance a b d`
--
-- What this file is for: the coefficients of one power of Y form a word with one coordinate fewer; it is read, and subtracted.
use Rattle.std.specs.Prelude.{◌≡◌, ℕ, suc, ◌*◌, ◌<◌}
use Rattle.polynomial.specs.Distance.{grid_distance}
use Rattle.grid.specs.Cost.{total, Agrees, Costs, lines}

module _ (q full a b d D : ℕ) (y : ℕ → ℕ) (u : ℕ → ℕ → ℕ) (Code : (ℕ → ℕ → ℕ) → Type 0) where
  abbrev pub NearMessage : (s g : ℕ → ℕ → ℕ) → Type 0
  NearMessage s g = Code g × (total q full a b y u (suc d) s g < full * D)

  pub record Left (k : ℕ) (s left found : ℕ → ℕ → ℕ) : Type 0 where
    pub agrees : (g : ℕ → ℕ → ℕ) → NearMessage s g → Agrees q a d k found g
    pub costs : Costs q full a b d y u k s left found

abbrev pub Bivariate : (d : ℕ) (x : ℕ → ℕ) (g : ℕ → ℕ → ℕ) → Type 0
Bivariate d x g = (h : ℕ → ℕ → ℕ) × ((t r : ℕ) → g t r ≡ lines d x h t r)

module _ (q full a b d : ℕ) (x y : ℕ → ℕ) (u : ℕ → ℕ → ℕ) where
  abbrev pub grid_cost : (s h : ℕ → ℕ → ℕ) → ℕ
  grid_cost s h = total q full a b y u (suc d) s (lines d x h)

  abbrev pub GridNear : (s h : ℕ → ℕ → ℕ) → Type 0
  GridNear s h = grid_cost s h < full * grid_distance a b d

  abbrev pub GridLeft : (k : ℕ) (s left found : ℕ → ℕ → ℕ) → Type 0
  GridLeft k s left found = Left q full a b d (grid_distance a b d) y u (Bivariate d x) k s left (lines d x found)
