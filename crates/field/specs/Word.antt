-- Words over the field.
--
--   Word p k w    w has k letters, each below p
--   reached b w   one of the letters of w is b or more
--
-- What this file is for: records are such words, and a search goes through all of them; lent bytes are tested for being such.
use Rattle.std.specs.Prelude.{◌≡◌, Bool, List, ℕ, ◌<◌, leb, length}
use Rattle.bounded.specs.Bounded.{at, any}

pub record Word (p k : ℕ) (w : List ℕ) : Type 0 where
  pub size : length w ≡ k
  pub below : (i : ℕ) → i < k → at w i < p

abbrev pub reached : ℕ → List ℕ → Bool
reached b w = any (length w) λ i. leb b (at w i)
