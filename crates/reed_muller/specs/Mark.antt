-- What the mark decoder hands over, and the photograph that it is given. a row points x, b column points y, modulo suc q.
--
--   grid b s r c   the symbol or doubt of row r and column c, in a flat photograph s of b columns
--   LoadedGrid full a b s u s' u'
--                  the cells s', u' of the decoder stand for those of the flat photograph s, u
--   Decoded q full a b d x y s u found w cost
--     sound        where it found one, w i t before X^i Y^t is a polynomial that costs so much, under the radius
--     below        its coefficients are below the modulus
--     only         whatever polynomial h is under the radius, it found one; that this is h is the law of the distance
--
-- What this file is for: a decoder that meets `Decoded` returns the one record under the radius, or there is none.
use Rattle.std.specs.Prelude.{◌≡◌, Bool, true, List, ℕ, suc, ◌+◌, ◌*◌, ◌≤◌, ◌<◌}
use Rattle.bounded.specs.Bounded.{at}
use Rattle.distance.specs.Loaded.{Loaded}
use Rattle.polynomial.specs.Distance.{grid_distance}
use Rattle.reed_muller.specs.Degree.{grid_cost, GridNear}

abbrev pub grid : ℕ → List ℕ → ℕ → ℕ → ℕ
grid b s r c = at s (r * b + c)

abbrev pub LoadedGrid : (full a b : ℕ) (s u : List ℕ) (s' u' : ℕ → ℕ → ℕ) → Type 0
LoadedGrid full a b s u s' u' = (r c : ℕ) → r < a → c < b → Loaded full (grid b s r c) (grid b u r c) (s' r c) (u' r c)

pub record Decoded (q full a b d : ℕ) (x y : ℕ → ℕ) (s u : ℕ → ℕ → ℕ) (found : Bool) (w : ℕ → ℕ → ℕ) (cost : ℕ) : Type 0 where
  pub sound : found ≡ true → (cost ≡ grid_cost q full a b d x y u s w) × (cost < full * grid_distance a b d)
  pub below : found ≡ true → (t i : ℕ) → i + t ≤ d → w i t < suc q
  pub only : (h : ℕ → ℕ → ℕ) → GridNear q full a b d x y u s h → found ≡ true
