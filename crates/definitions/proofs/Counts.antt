-- The counts of a photograph against the mark of a record.
--
--   value-below       a value of a record is below the modulus
--   differing_split   the cells that differ from the mark are the changed ones and the unread ones
--
-- What this file is for: a cell is compared with the mark whether it was read or not, and the unread cells are counted apart.
-- Assumes nothing.
use mathlib.Core.Path.{◌≡◌, refl, sym, ◌∙◌}
use mathlib.Core.Logic.{◌≢◌}
use mathlib.Core.Bool.{Bool, true, false, cond}
use mathlib.Core.List.{List}
use Prim.Native.Nat.{ℕ, ◌+◌, ◌<◌}
use native.Mathlib.Omega.{arith}
use native.Mathlib.Nat.{mod-lt}
use lib.Dec.{eqb}
use borrow.Author.Tests.{eqb-true, ne_eqb}
use Rattle.bounded.specs.Bounded.{at}
use Rattle.bounded.proofs.Sum.{sum-eq, sum-add}
use Rattle.distance.specs.Cost.{differ, hamming}
use Rattle.polynomial.specs.Layout.{value as value_at}
use Rattle.definitions.specs.Plan.{modulus}
use Rattle.definitions.specs.Code.{Code, cells, value}
use Rattle.definitions.specs.Cost.{unread, changed_cell, unread_cell}
use Rattle.definitions.specs.Calls.{changed_of, unread_of}
use Rattle.definitions.specs.Sound.{Sound}

-- one cell, whose value is not the symbol of an unread cell
cell_split : (s v : ℕ) → v ≢ unread → differ s v ≡ changed_cell s v + unread_cell s
cell_split s v h = go (eqb s unread) refl
  where
    go : (b : Bool) → eqb s unread ≡ b → differ s v ≡ cond b 0 (differ s v) + cond b 1 0
    go true e = rw (ne_eqb s v (λ i. h (sym i ∙ eqb-true s unread e)))
    go false e = omega arith

module _ {P : List ℕ} (S : Sound P) where
  pub value-below : (C : Code) (F : List ℕ) (c : ℕ) → value C P F c < modulus P
  unfolding value_at
  value-below C F c = mod-lt _ (omega (arith, S.prime.least))

  pub differing_split : (C : Code) (s F : List ℕ) →
      hamming (cells C P) (at s) (value C P F) ≡ changed_of C P s F + unread_of C P s
  differing_split C s F =
      sum-eq (cells C P) (λ c l. cell_split (at s c) (value C P F c) (λ z. omega (arith, z, value-below C F c, S.small)))
      ∙ sum-add (cells C P) (λ c. changed_cell (at s c) (value C P F c)) (λ c. unread_cell (at s c))
