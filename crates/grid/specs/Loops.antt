-- Rows of cells, and loops over rows in pairs with numbers; loops over one array have `Upto` and `Passed` of the crate `field`.
--
--   line rows r            row r, and the empty row beyond the end of the rows
--   cell_at rows r c        cell c of row r
--   Both n z U T l k i     as `Passed`, T being of elements in pairs with numbers
--
-- What this file is for: the invariant of the loop that reads the lines where they stand.
use Rattle.std.specs.Prelude.{◌≡◌, List, [], ℕ, ◌≤◌, ◌<◌, length, get_or}
use Rattle.bounded.specs.Bounded.{at}

abbrev pub line : List (List ℕ) → ℕ → List ℕ
line rows r = get_or rows r []

abbrev pub cell_at : List (List ℕ) → ℕ → ℕ → ℕ
cell_at rows r c = at (line rows r) c

pub record Both {A : Type 0} (n : ℕ) (z : A) (U : ℕ → A → Type 0) (T : ℕ → A → ℕ → Type 0)
    (l : List A) (k : List ℕ) (i : ℕ) : Type 0 where
  pub size : length l ≡ 16
  pub numbers : length k ≡ 16
  pub done : (j : ℕ) → j < i → T j (get_or l j z) (at k j)
  pub todo : (j : ℕ) → i ≤ j → j < n → U j (get_or l j z)
