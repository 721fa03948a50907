-- Cases of combined cells: the symbols of nine photographs, and the cell that they make.
--
--   seen f x ⟹ (w, u)     with the full doubt f the symbols x make the symbol w with the doubt u
--   asks, given            the symbols of a row, and what it says is given
--   combined               what the definitions say is given
--   vote_cases             the rows
--
-- What this file is for: the definitions of the combined cell are held to these rows, all at once (proofs/Cases.antt).
use Rattle.std.specs.Prelude.{List, [], ◌∷◌, ◌++◌, ℕ, replicate}
use Rattle.votes.specs.Votes.{symbol_of, doubt_of}

pub data Cell : Type 0 where
  seen : (f : ℕ) (x : List ℕ) → Cell

infix 5 ◌⟹◌
pub data Case : Type 0 where
  ◌⟹◌ : Cell → ℕ × ℕ → Case

abbrev pub asks : Case → Cell
asks (c ⟹ g) = c

abbrev pub given : Case → ℕ × ℕ
given (c ⟹ g) = g

unfoldable pub combined : Cell → ℕ × ℕ
combined (seen f x) = (symbol_of x 9, doubt_of f x 9)

-- n photographs that have the symbol v, and n that are unread or not held
abbrev of : (n v : ℕ) → List ℕ
of n v = replicate n v

abbrev silent : ℕ → List ℕ
silent n = replicate n 255

-- In order: one vote; a vote for symbol 0; a tie of two, the smaller coming last; a tie of three; 9 of 9; 5 to 4, and 4 to 5;
-- 4 to 3 to 2; 2 to 1; 2 of 2 and 8 of 8 with the others silent; 3 to 3 to 3; nine symbols; 7 to 2; 8 to 1; 7 to 1 and one
-- silent; larger symbols; no vote. Most of them with both full doubts
abbrev pub vote_cases : List Case
vote_cases =
    (seen 100 (3 ∷ silent 8) ⟹ (3, 0))
    ∷ (seen 250 (silent 8 ++ of 1 3) ⟹ (3, 0))
    ∷ (seen 100 (silent 4 ++ of 1 0 ++ silent 4) ⟹ (0, 0))
    ∷ (seen 250 (0 ∷ silent 8) ⟹ (0, 0))
    ∷ (seen 100 (5 ∷ 2 ∷ silent 7) ⟹ (2, 100))
    ∷ (seen 250 (2 ∷ silent 7 ++ of 1 5) ⟹ (2, 250))
    ∷ (seen 100 (9 ∷ 4 ∷ 7 ∷ silent 6) ⟹ (4, 100))
    ∷ (seen 250 (of 2 7 ++ of 2 9 ++ silent 3 ++ of 2 4) ⟹ (4, 250))
    ∷ (seen 100 (of 9 6) ⟹ (6, 0))
    ∷ (seen 250 (of 9 6) ⟹ (6, 0))
    ∷ (seen 100 (of 5 8 ++ of 4 1) ⟹ (8, 89))
    ∷ (seen 250 (of 4 1 ++ of 5 8) ⟹ (8, 223))
    ∷ (seen 100 (of 4 8 ++ of 5 1) ⟹ (1, 89))
    ∷ (seen 250 (of 4 8 ++ of 5 1) ⟹ (1, 223))
    ∷ (seen 100 (of 2 1 ++ of 4 8 ++ of 3 0) ⟹ (8, 89))
    ∷ (seen 250 (of 3 0 ++ of 2 1 ++ of 4 8) ⟹ (8, 223))
    ∷ (seen 100 (4 ∷ 1 ∷ 4 ∷ silent 6) ⟹ (4, 67))
    ∷ (seen 250 (4 ∷ 1 ∷ 4 ∷ silent 6) ⟹ (4, 167))
    ∷ (seen 100 (of 2 5 ++ silent 7) ⟹ (5, 0))
    ∷ (seen 250 (silent 1 ++ of 8 5) ⟹ (5, 0))
    ∷ (seen 100 (of 3 2 ++ of 3 1 ++ of 3 3) ⟹ (1, 100))
    ∷ (seen 250 (9 ∷ 8 ∷ 7 ∷ 6 ∷ 5 ∷ 4 ∷ 3 ∷ 2 ∷ 1 ∷ []) ⟹ (1, 250))
    ∷ (seen 100 (of 7 2 ++ of 2 9) ⟹ (2, 45))
    ∷ (seen 250 (of 7 2 ++ of 2 9) ⟹ (2, 112))
    ∷ (seen 100 (of 8 5 ++ of 1 0) ⟹ (5, 23))
    ∷ (seen 250 (of 8 5 ++ of 1 0) ⟹ (5, 56))
    ∷ (seen 100 (of 7 5 ++ of 1 0 ++ silent 1) ⟹ (5, 25))
    ∷ (seen 250 (of 7 5 ++ of 1 0 ++ silent 1) ⟹ (5, 63))
    ∷ (seen 100 (of 2 24 ++ of 1 23 ++ silent 6) ⟹ (24, 67))
    ∷ (seen 100 (silent 9) ⟹ (255, 100))
    ∷ (seen 250 (silent 9) ⟹ (255, 250))
    ∷ []
