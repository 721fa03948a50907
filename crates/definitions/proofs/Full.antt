-- The full doubt of a plan.
--
--   full-before, full_from   it is 100 before season 30, and 250 from season 30 on
--   full-some, full-most     so it is above 0, and at most 250
--
-- What this file is for: the laws of costs and limits are for any full doubt; these say what it is. Assumes nothing.
use mathlib.Core.Path.{◌≡◌}
use mathlib.Core.Logic.{◌⊎◌, inl, inr}
use mathlib.Core.List.{List}
use Prim.Native.Nat.{ℕ, ◌≤◌, ◌<◌}
use native.Mathlib.Omega.{arith}
use native.Mathlib.Decide.{dec_lt}
use borrow.Author.Tests.{lt-ltb, le-ltb}
use Rattle.definitions.specs.Plan.{season}
use Rattle.definitions.specs.Cost.{full}

module _ (P : List ℕ) where
  pub full-before : season P < 30 → full P ≡ 100
  unfolding full
  full-before l = rw (lt-ltb (season P) 30 l)

  pub full_from : 30 ≤ season P → full P ≡ 250
  unfolding full
  full_from l = rw (le-ltb (season P) 30 l)

  either : (full P ≡ 100) ⊎ (full P ≡ 250)
  either = elim (dec_lt (season P) 30) [ yes l ↦ inl (full-before l) | no l ↦ inr (full_from (omega arith)) ]

  pub full-some : 1 ≤ full P
  full-some = elim either [ inl e ↦ omega (arith, e) | inr e ↦ omega (arith, e) ]

  pub full-most : full P ≤ 250
  full-most = elim either [ inl e ↦ omega (arith, e) | inr e ↦ omega (arith, e) ]
