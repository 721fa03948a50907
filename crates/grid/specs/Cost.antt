-- What a message costs on any set of lines: a lines of b points y each, symbols s r c and doubts u r c with the full doubt,
-- modulo suc q. On line r the message g has the coefficient g t r before Y^t, t ≤ d.
--
--   total q full a b y u k s g   what the terms of g below Y^k cost against the symbols s; all terms for k = d + 1
--   remaining full a b u left    what is left, measured against 0
--   Agrees q a d k found g       g has the coefficients found, those of Y^k and higher
--   Costs .. k s left found      whatever has them costs below Y^k, against what is left, what all of it costs against s
--   lines d x h                  the message of a polynomial in two variables, the lines being row points x: h i t stands before
--                                X^i Y^t, i + t ≤ d
--   GridCosts .. k s left found  Costs, for coefficients found of such a polynomial
--
-- What this file is for: what was found is subtracted from the symbols, and what is left tells what a whole message costs.
use Rattle.std.specs.Prelude.{◌≡◌, ℕ, suc, ◌≤◌, ◌<◌}
use Rattle.bounded.specs.Bounded.{sum}
use Rattle.field.specs.Congruence.{Cong}
use Rattle.distance.specs.Cost.{cost}
use Rattle.polynomial.specs.Eval.{values}
use Rattle.polynomial.specs.Record.{column}

abbrev pub total : (q full a b : ℕ) (y : ℕ → ℕ) (u : ℕ → ℕ → ℕ) (k : ℕ) (s g : ℕ → ℕ → ℕ) → ℕ
total q full a b y u k s g = sum a λ r. cost full b (s r) (u r) (values q k (λ t. g t r) y)

abbrev pub remaining : (full a b : ℕ) (u left : ℕ → ℕ → ℕ) → ℕ
remaining full a b u left = sum a λ r. cost full b (left r) (u r) λ c. 0

abbrev pub Agrees : (q a d k : ℕ) (found g : ℕ → ℕ → ℕ) → Type 0
Agrees q a d k found g = (t r : ℕ) → k ≤ t → t ≤ d → r < a → Cong q (found t r) (g t r)

pub record Costs (q full a b d : ℕ) (y : ℕ → ℕ) (u : ℕ → ℕ → ℕ) (k : ℕ) (s left found : ℕ → ℕ → ℕ) : Type 0 where
  pub keeps : (g : ℕ → ℕ → ℕ) → Agrees q a d k found g → total q full a b y u k left g ≡ total q full a b y u (suc d) s g

abbrev pub lines : (d : ℕ) (x : ℕ → ℕ) (h : ℕ → ℕ → ℕ) → ℕ → ℕ → ℕ
lines d x h t r = column d h t (x r)

module _ (q full a b d : ℕ) (x y : ℕ → ℕ) (u : ℕ → ℕ → ℕ) where
  abbrev pub GridCosts : (k : ℕ) (s left found : ℕ → ℕ → ℕ) → Type 0
  GridCosts k s left found = Costs q full a b d y u k s left (lines d x found)
