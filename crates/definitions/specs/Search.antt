-- A search through all words, in dictionary order. It defines a reading; no program runs it.
--
--   first_of n f        the first answer among f 0 .. f (n - 1)
--   search p k test    the first word of k letters below p that passes the test, or none
--
-- What this file is for: "the first record whose cost is under the radius".
use Rattle.std.specs.Prelude.{Bool, true, false, List, [], ◌∷◌, ℕ, zero, suc}
use Rattle.std.proofs.Math.Option.{Option, some, none}

unfoldable pub first_of : ℕ → (ℕ → Option (List ℕ)) → Option (List ℕ)
first_of zero f = none
first_of (suc n) f = elim (first_of n f) [ some w ↦ some w | none ↦ f n ]

-- the letter c before what was found
abbrev pub put : ℕ → Option (List ℕ) → Option (List ℕ)
put c (some w) = some (c ∷ w)
put c none = none

unfoldable pub search : (p k : ℕ) → (List ℕ → Bool) → Option (List ℕ)
search p zero test = elim (test []) [ true ↦ some [] | false ↦ none ]
search p (suc k) test = first_of p λ c. put c (search p k λ w. test (c ∷ w))
