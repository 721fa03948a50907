-- The order in which cells enter: by doubt, and by place among cells of one doubt.
--
--   taken            the key of a cell that has entered, or is none
--   key n u j        the key of the cell j of n with the doubt u: 16 u + j
--   Placed l         of the sixteen keys l each one below `taken` tells its place, and none is above it
--   Least n l r      r is the least of the first n keys of l, or `taken` where none is less
--   Entering l w r   of the cells with the keys l those that w marks have entered: r are the keys of the others, and none of
--                    these is below the key of one that has entered
--
-- What this file is for: cells enter by rising key, and levels of doubt rise with it.
use Rattle.std.specs.Prelude.{◌≢◌, ◌≡◌, cond, List, ℕ, ◌+◌, ◌*◌, ◌%◌, ◌≤◌, ◌<◌, eqb, ltb, length}
use Rattle.bounded.specs.Bounded.{at}

abbrev pub taken : ℕ
taken = 1048576

abbrev pub key : (n u j : ℕ) → ℕ
key n u j = cond (ltb j n) (u * 16 + j) taken

pub record Placed (l : List ℕ) : Type 0 where
  pub size : length l ≡ 16
  pub place : (j : ℕ) → j < 16 → at l j < taken → at l j % 16 ≡ j
  pub most : (j : ℕ) → at l j ≤ taken

pub record Least (n : ℕ) (l : List ℕ) (r : ℕ) : Type 0 where
  pub most : r ≤ taken
  pub low : (j : ℕ) → j < n → r ≤ at l j
  pub one : r < taken → (j : ℕ) × (j < n) × (at l j ≡ r)

pub record Entering (l w r : List ℕ) : Type 0 where
  pub size : length r ≡ 16
  pub others : (j : ℕ) → j < 16 → at r j ≡ cond (eqb (at w j) 0) (at l j) taken
  pub some : (j : ℕ) → j < 16 → at w j ≢ 0 → at l j < taken
  pub first : (i j : ℕ) → i < 16 → j < 16 → at w i ≢ 0 → at l i ≤ at r j
