-- The cases of combined cells hold of the definitions.
--
--   vote_cases_hold    all rows
--
-- What this file is for: the definitions say what was worked out by hand; it is one computed comparison. Assumes nothing.
use mathlib.Core.Path.{◌≡◌, refl}
use mathlib.Core.List.{map}
use Rattle.bounded.specs.Bounded.{index}
use Rattle.votes.specs.Votes.{votes, cast, most, winner, next, symbol_of, doubt_of}
use Rattle.votes.specs.Cases.{combined, asks, given, vote_cases}

pub vote_cases_hold : map combined (map asks vote_cases) ≡ map given vote_cases
unfolding combined index votes cast most winner next symbol_of doubt_of
vote_cases_hold = refl
