-- Cases of request 9: symbols, the record that masks them, and what is left.
--
--   mask W C P F s ⟹ (n, b)    the call gives the number n, and leaves the bytes b
--   asks, given                 the call of a row, and what it says is given
--   effect                      what the definitions say is given
--   mask_cases                  the rows
--
-- What this file is for: the definitions of masking are held to these rows, all at once (proofs/MaskCases.antt).
use Rattle.std.specs.Prelude.{List, [], ◌∷◌, ◌++◌, ℕ, replicate, drop, set}
use Rattle.definitions.specs.Code.{Code, strip, oblong}
use Rattle.definitions.specs.Photograph.{sure}
use Rattle.definitions.specs.Masking.{Way, on, off, mask_number, mask_buffer}
use Rattle.definitions.specs.Cases.{plan_a, plan_wide, plan_tall, record₁, mark₁, mark_wide, mark_tall, hidden, season30}

pub data Call : Type 0 where
  mask : (W : Way) (C : Code) (P F s : List ℕ) → Call

infix 5 ◌⟹◌
pub data Case : Type 0 where
  ◌⟹◌ : Call → ℕ × List ℕ → Case

abbrev pub asks : Case → Call
asks (c ⟹ g) = c

abbrev pub given : Case → ℕ × List ℕ
given (c ⟹ g) = g

unfoldable pub effect : Call → ℕ × List ℕ
effect (mask W C P F s) = (mask_number C P F s, mask_buffer W C P F s)

-- what lacks of p in each cell of the mark of 3 1 2, and that mark twice, which is the mark of 6 2 4
abbrev lacking : List ℕ
lacking = 1 ∷ 6 ∷ 2 ∷ 0 ∷ 5 ∷ 1 ∷ 5 ∷ 3 ∷ 6 ∷ []

abbrev twice : List ℕ
twice = 5 ∷ 2 ∷ 3 ∷ 0 ∷ 4 ∷ 5 ∷ 4 ∷ 1 ∷ 2 ∷ []

-- unread cells alone; the plan with p 251, and the constant c there
abbrev dark : List ℕ
dark = replicate 9 255

abbrev large : List ℕ
large = set plan_a 2 251

abbrev constant : ℕ → List ℕ
constant c = c ∷ 0 ∷ 0 ∷ []

-- In order: cells that were read as 0, put on and taken off; sums below p, of p and above it, differences below 0; a later
-- season; cells that are unread, some and all; the record 0; oblong marks, and strips, which go by the row points; the largest
-- symbols, and a sum above a byte; an unsound plan's own number; lengths; symbols that are p, or 254; a coefficient that is p; 6
-- before 7 before 9
abbrev pub mask_cases : List Case
mask_cases =
    (mask on oblong plan_a record₁ (sure 9) ⟹ (0, mark₁))
    ∷ (mask off oblong plan_a record₁ mark₁ ⟹ (0, sure 9))
    ∷ (mask on oblong plan_a record₁ mark₁ ⟹ (0, twice))
    ∷ (mask off oblong plan_a record₁ twice ⟹ (0, mark₁))
    ∷ (mask on oblong plan_a record₁ lacking ⟹ (0, sure 9))
    ∷ (mask off oblong plan_a record₁ (sure 9) ⟹ (0, lacking))
    ∷ (mask on oblong (season30 plan_a) record₁ mark₁ ⟹ (0, twice))
    ∷ (mask on oblong plan_a record₁ (hidden 5) ⟹ (0, replicate 5 255 ++ drop 5 twice))
    ∷ (mask off oblong plan_a record₁ (hidden 5) ⟹ (0, replicate 5 255 ++ sure 4))
    ∷ (mask on oblong plan_a record₁ dark ⟹ (0, dark))
    ∷ (mask off oblong plan_a record₁ dark ⟹ (0, dark))
    ∷ (mask on oblong plan_a (constant 0) mark₁ ⟹ (0, mark₁))
    ∷ (mask off oblong plan_a (constant 0) mark₁ ⟹ (0, mark₁))
    ∷ (mask on oblong plan_wide record₁ (sure 6) ⟹ (0, mark_wide))
    ∷ (mask off oblong plan_wide record₁ (255 ∷ drop 1 mark_wide) ⟹ (0, 255 ∷ sure 5))
    ∷ (mask on oblong plan_tall record₁ (sure 6) ⟹ (0, mark_tall))
    ∷ (mask on strip plan_wide (3 ∷ 1 ∷ []) (5 ∷ 255 ∷ []) ⟹ (0, 2 ∷ 255 ∷ []))
    ∷ (mask off strip plan_wide (3 ∷ 1 ∷ []) (255 ∷ 5 ∷ []) ⟹ (0, 255 ∷ 6 ∷ []))
    ∷ (mask on strip plan_tall (3 ∷ 1 ∷ []) (6 ∷ 6 ∷ 6 ∷ []) ⟹ (0, 2 ∷ 4 ∷ 0 ∷ []))
    ∷ (mask on oblong large (constant 250) (replicate 9 250) ⟹ (0, replicate 9 249))
    ∷ (mask on oblong large (constant 1) (replicate 9 250) ⟹ (0, sure 9))
    ∷ (mask on oblong large (constant 6) (replicate 9 249) ⟹ (0, replicate 9 4))
    ∷ (mask off oblong large (constant 250) (sure 9) ⟹ (0, replicate 9 1))
    ∷ (mask on oblong (drop 1 plan_a) record₁ mark₁ ⟹ (1, mark₁))
    ∷ (mask on oblong (set plan_a 2 9) (7 ∷ []) [] ⟹ (2, []))
    ∷ (mask on strip (set plan_a 3 8) record₁ mark₁ ⟹ (3, mark₁))
    ∷ (mask off strip (set plan_a 4 0) record₁ mark₁ ⟹ (13, mark₁))
    ∷ (mask off oblong (set plan_a 5 3) record₁ mark₁ ⟹ (4, mark₁))
    ∷ (mask off strip (set plan_a 22 7) record₁ mark₁ ⟹ (5, mark₁))
    ∷ (mask on oblong plan_a (3 ∷ 1 ∷ []) mark₁ ⟹ (6, mark₁))
    ∷ (mask off oblong plan_a (record₁ ++ 0 ∷ []) mark₁ ⟹ (6, mark₁))
    ∷ (mask on oblong plan_a record₁ (drop 1 mark₁) ⟹ (6, drop 1 mark₁))
    ∷ (mask off oblong plan_a record₁ (7 ∷ mark₁) ⟹ (6, 7 ∷ mark₁))
    ∷ (mask on oblong plan_a record₁ (set mark₁ 8 7) ⟹ (7, set mark₁ 8 7))
    ∷ (mask off oblong plan_a record₁ (set mark₁ 0 254) ⟹ (7, set mark₁ 0 254))
    ∷ (mask on oblong plan_a (3 ∷ 1 ∷ 7 ∷ []) (set mark₁ 0 7) ⟹ (7, set mark₁ 0 7))
    ∷ (mask on oblong plan_a (3 ∷ 1 ∷ 7 ∷ []) dark ⟹ (9, dark))
    ∷ (mask off oblong plan_a (7 ∷ 1 ∷ 2 ∷ []) mark₁ ⟹ (9, mark₁))
    ∷ []
