-- Levels of doubt (Forney; Kim, section 4.2): at level t a cell whose doubt is over t counts as erased.
--
--   wrong t s u v       1 for a cell that is kept at level t and whose symbol is not the value
--   erased t u          1 for a cell that is erased at level t
--   weight n t s u v    twice the wrong cells and the erased ones, over n cells
--
-- What this file is for: a word whose cost is under the radius is near at some level.
use Rattle.std.specs.Prelude.{cond, ℕ, ◌+◌, ◌*◌, leb}
use Rattle.bounded.specs.Bounded.{sum}
use Rattle.distance.specs.Cost.{differ}

abbrev pub wrong : (t s u v : ℕ) → ℕ
wrong t s u v = cond (leb u t) (differ s v) 0

abbrev pub erased : (t u : ℕ) → ℕ
erased t u = cond (leb u t) 0 1

abbrev pub weight : (n t : ℕ) (s u v : ℕ → ℕ) → ℕ
weight n t s u v = 2 * sum n (λ i. wrong t (s i) (u i) (v i)) + sum n (λ i. erased t (u i))
