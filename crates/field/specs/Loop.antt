-- The loop that sets the elements of an array one after the other.
--
--   Upto n z T l i      the array l has n elements, and of each element v at a place j below i the fact T j v holds; z is what
--                       a read beyond the end gives, and has no part in it
--   Passed n z U T l i  of sixteen elements, T holds of those before i, and U of those from i on and before n
--
-- What this file is for: these are the invariants of every loop over one array, whatever its elements are: of one that sets it
-- anew, and of one that changes it where it stands.
use Rattle.std.specs.Prelude.{◌≡◌, List, ℕ, ◌≤◌, ◌<◌, length, get_or}

pub record Upto {A : Type 0} (n : ℕ) (z : A) (T : ℕ → A → Type 0) (l : List A) (i : ℕ) : Type 0 where
  pub size : length l ≡ n
  pub done : (j : ℕ) → j < i → T j (get_or l j z)

pub record Passed {A : Type 0} (n : ℕ) (z : A) (U T : ℕ → A → Type 0) (l : List A) (i : ℕ) : Type 0 where
  pub size : length l ≡ 16
  pub done : (j : ℕ) → j < i → T j (get_or l j z)
  pub todo : (j : ℕ) → i ≤ j → j < n → U j (get_or l j z)
