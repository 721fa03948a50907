-- The combined cell in the document's words, and the columns of nine bytes in which the code finds it.
--
--   Majority f x n w u    among the n symbols x, of which 255 casts no vote, w has most votes and is the smallest that has, and
--                         the doubt u is by its votes and those of the next; where no vote is cast the cell is unread at the
--                         full doubt f
--   counted x k           the votes for the symbol of photograph k, none where it casts none
--   lowness x c m k       255 less the symbol of photograph k where c counts m votes for it, else 0
--   other x c w k         the votes that c counts for the symbol of photograph k where it is not w, else 0
--
-- What this file is for: the statement that a user reads; and what the code's passes compute: the largest entry of each of the
-- three columns.
use Rattle.std.specs.Prelude.{◌≡◌, cond, List, ◌≢◌, ◌⊎◌, ℕ, ◌*◌, ◌-◌, ◌/◌, ◌≤◌, ◌<◌, eqb}
use Rattle.bounded.specs.Bounded.{at}
use Rattle.votes.specs.Votes.{votes, cast}

pub record Majority (f : ℕ) (x : List ℕ) (n w u : ℕ) : Type 0 where
  -- no vote
  pub unread : cast x n ≡ 0 → (w ≡ 255) × (u ≡ f)
  -- the symbol with most votes, the smallest if several tie
  pub symbol : 0 < cast x n → w < 255
  pub most : 0 < cast x n → (v : ℕ) → v < 255 → votes x n v ≤ votes x n w
  pub smallest : 0 < cast x n → (v : ℕ) → v < 255 → votes x n v ≡ votes x n w → w ≤ v
  -- s is the votes of the next, and 0 if there is none
  pub doubt : 0 < cast x n → (s : ℕ) × ((v : ℕ) → v < 255 → v ≢ w → votes x n v ≤ s)
      × ((s ≡ 0) ⊎ ((v : ℕ) × (v < 255) × (v ≢ w) × (votes x n v ≡ s))) × (u ≡ f - f * (votes x n w - s) / cast x n)

abbrev pub counted : (x : List ℕ) (k : ℕ) → ℕ
counted x k = cond (eqb (at x k) 255) 0 (votes x 9 (at x k))

abbrev pub lowness : (x c : List ℕ) (m k : ℕ) → ℕ
lowness x c m k = cond (eqb (at c k) m) (255 - at x k) 0

abbrev pub other : (x c : List ℕ) (w k : ℕ) → ℕ
other x c w k = cond (eqb (at x k) w) 0 (at c k)
