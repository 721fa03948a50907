-- Cases of request 8: calls on sets, the number and what they leave.
--
--   start P S ⟹ (n, b), add S k s u, withdraw S k    the call gives the number n, and leaves the memory b
--   combine S B D ⟹ (n, b)                           it gives the number n, and leaves both buffers, b, one behind the other
--   asks, given                                       the call of a row, and what it says is given
--   effect                                            what the definitions say is given
--   set_cases                                         the rows
--
-- The memory here ends behind the flags, but where symbols are put or combined; any bytes are a set's.
-- What this file is for: the definitions of sets are held to these rows, all at once (proofs/SetCases.antt).
use Rattle.std.specs.Prelude.{List, [], ◌∷◌, ◌++◌, ℕ, replicate, set}
use Rattle.definitions.specs.Plan.{check_number}
use Rattle.definitions.specs.Photograph.{sure}
use Rattle.definitions.specs.Sets.{blank, started, start_memory, add_number, add_memory, withdraw_number, withdraw_memory}
use Rattle.definitions.specs.Sets.{combine_number, combine_symbols, combine_doubts}
use Rattle.definitions.specs.Cases.{plan_a, mark₁, season30}

pub data Call : Type 0 where
  start : (P S : List ℕ) → Call
  add : (S : List ℕ) (k : ℕ) (s u : List ℕ) → Call
  withdraw : (S : List ℕ) (k : ℕ) → Call
  combine : (S B D : List ℕ) → Call

infix 5 ◌⟹◌
pub data Case : Type 0 where
  ◌⟹◌ : Call → ℕ × List ℕ → Case

abbrev pub asks : Case → Call
asks (c ⟹ g) = c

abbrev pub given : Case → ℕ × List ℕ
given (c ⟹ g) = g

unfoldable pub effect : Call → ℕ × List ℕ
effect (start P S) = (check_number P, start_memory P S)
effect (add S k s u) = (add_number S k s u, add_memory S k s u)
effect (withdraw S k) = (withdraw_number S k, withdraw_memory S k)
effect (combine S B D) = (combine_number S B D, combine_symbols S B D ++ combine_doubts S B D)

-- plan A with no photograph held, and with photograph 3 held; in season 30; the flags alone
abbrev none : List ℕ
none = plan_a ++ replicate 9 0

abbrev third : List ℕ
third = plan_a ++ (0 ∷ 0 ∷ 0 ∷ 1 ∷ replicate 5 0)

abbrev finer : List ℕ
finer = season30 plan_a ++ replicate 9 0

-- a mark with a symbol that is p; with its first cell unread; a first doubt, the others 0
abbrev odd : List ℕ
odd = set mark₁ 4 7

abbrev dark : List ℕ
dark = set mark₁ 0 255

abbrev first : ℕ → List ℕ
first u = u ∷ sure 8

abbrev arrived : (S s : List ℕ) → List ℕ
arrived S s = set S 40 1 ++ s

-- In order: a start, on any bytes, and a refused one; an arrival; a number that is held, or above 8; 17 before 7 and 8, 6 before
-- 17, the plan in the memory before 6; 7 before 8; a doubt above the full doubt, in either season; an unread cell's doubt, in
-- either season; a withdrawal, of a number that is not held, above 8, and with no sound plan; buffers of another length, and with
-- no sound plan
abbrev pub set_cases : List Case
set_cases =
    (start plan_a [] ⟹ (0, started plan_a))
    ∷ (start plan_a third ⟹ (0, started plan_a))
    ∷ (start (set plan_a 2 4) third ⟹ (2, third))
    ∷ (add none 0 mark₁ (sure 9) ⟹ (0, arrived none mark₁))
    ∷ (add third 0 mark₁ (sure 9) ⟹ (0, arrived third mark₁))
    ∷ (add third 3 mark₁ (sure 9) ⟹ (17, third))
    ∷ (add (set none 43 200) 3 mark₁ (sure 9) ⟹ (17, set none 43 200))
    ∷ (add none 9 mark₁ (sure 9) ⟹ (17, none))
    ∷ (add none 4294967295 mark₁ (sure 9) ⟹ (17, none))
    ∷ (add third 3 odd (first 101) ⟹ (17, third))
    ∷ (add third 9 odd (first 101) ⟹ (17, third))
    ∷ (add third 3 odd (sure 8) ⟹ (6, third))
    ∷ (add third 9 (sure 8) (sure 9) ⟹ (6, third))
    ∷ (add (set third 3 0) 3 odd (sure 8) ⟹ (3, set third 3 0))
    ∷ (add none 0 odd (first 101) ⟹ (7, none))
    ∷ (add none 0 mark₁ (first 100) ⟹ (0, arrived none mark₁))
    ∷ (add none 0 mark₁ (first 101) ⟹ (8, none))
    ∷ (add finer 0 mark₁ (first 250) ⟹ (0, arrived finer mark₁))
    ∷ (add finer 0 mark₁ (first 251) ⟹ (8, finer))
    ∷ (add none 0 dark (first 100) ⟹ (0, arrived none dark))
    ∷ (add none 0 dark (first 99) ⟹ (8, none))
    ∷ (add finer 0 dark (first 250) ⟹ (0, arrived finer dark))
    ∷ (add finer 0 dark (first 100) ⟹ (8, finer))
    ∷ (withdraw third 3 ⟹ (0, none ++ blank 256))
    ∷ (withdraw third 4 ⟹ (18, third))
    ∷ (withdraw third 9 ⟹ (18, third))
    ∷ (withdraw third 259 ⟹ (18, third))
    ∷ (withdraw (set third 2 4) 3 ⟹ (0, set none 2 4 ++ blank 256))
    ∷ (combine third (sure 8) (sure 9) ⟹ (6, sure 17))
    ∷ (combine third (sure 9) (sure 10) ⟹ (6, sure 19))
    ∷ (combine (set third 3 0) (sure 8) (sure 9) ⟹ (3, sure 17))
    ∷ []
