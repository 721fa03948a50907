-- Photographs as the readers take and load them.
--
--   taken            where the plan's refusals and 6 to 8 do not apply, a photograph was taken
--   residue-below    a loaded symbol is below the modulus
--   residue_loaded   and stands for the symbol that was lent
--
-- What this file is for: from the checks' number to what the readers ask. Assumes nothing.
use mathlib.Core.Path.{◌≡◌, refl}
use mathlib.Core.Logic.{◌⊎◌, inl, inr}
use mathlib.Core.Bool.{Bool, true, false, cond}
use mathlib.Core.List.{List}
use Prim.Native.Nat.{ℕ, ◌<◌}
use lib.Dec.{eqb}
use borrow.Author.Tests.{eqb-true, eqb-false}
use Rattle.definitions.specs.Refusals.{first}
use Rattle.definitions.specs.Code.{Code}
use Rattle.definitions.specs.Cost.{unread}
use Rattle.definitions.specs.Calls.{photo_rows}
use Rattle.definitions.proofs.Photograph.{accepted-photo, accepted-buffer}
use Rattle.distance.specs.Loaded.{Loaded}
use Rattle.reading.specs.Loading.{residue, Taken}

pub taken : (C : Code) (P s u B : List ℕ) → first (photo_rows C P s u B) ≡ 0 → Taken C P s u B
taken C P s u B e = let h = accepted-photo C P s u B e in
    record { clear = e; photo = h; room = accepted-buffer C P s u B e }

pub residue-below : {p v : ℕ} → 0 < p → (v < p) ⊎ (v ≡ unread) → residue v < p
residue-below {p} {v} z h = go (eqb v unread) refl h
  where
    go : (b : Bool) → eqb v unread ≡ b → (v < p) ⊎ (v ≡ unread) → cond b 0 v < p
    go true e h = z
    go false e (inl l) = l
    go false e (inr q) = absurd (eqb-false v unread e q)

pub residue_loaded : {f : ℕ} (v u : ℕ) → (v ≡ unread → u ≡ f) → Loaded f v u (residue v) u
residue_loaded {f} v u h = record { doubt = refl; symbol = go (eqb v unread) refl }
  where
    go : (b : Bool) → eqb v unread ≡ b → (cond b 0 v ≡ v) ⊎ (u ≡ f)
    go true e = inr (h (eqb-true v unread e))
    go false e = inl refl
