-- Doubts of a photograph.
--
--   Doubts full n u    none of the n doubts is above the full doubt
--
-- What this file is for: the cost of a word is a sum without subtraction below 0 where its doubts are such.
use Rattle.std.specs.Prelude.{ℕ, ◌≤◌, ◌<◌}

abbrev pub Doubts : (full n : ℕ) (u : ℕ → ℕ) → Type 0
Doubts full n u = (i : ℕ) → i < n → u i ≤ full
