-- Symbols and the values that are added to them.
--
--   cells_fit      symbols of a plan and the mark of a record: as many of each, the values below p, the symbols below p or 255
--   cells-masked   each shifted by the value of its cell, they are masked
--
-- What this file is for: the loop over cells in the words of the definitions. Assumes nothing.
use mathlib.Core.Path.{◌≡◌, sym, ap, ◌∙◌}
use mathlib.Core.Logic.{◌⊎◌}
use mathlib.Core.List.{List}
use Prim.Native.Nat.{ℕ, ◌<◌}
use lib.ListN.{length}
use Rattle.bounded.specs.Bounded.{at, tab}
use Rattle.bounded.proofs.Tab.{tab-eq}
use Rattle.definitions.specs.Code.{Code, mark}
use Rattle.definitions.specs.Cost.{unread}
use Rattle.definitions.specs.Accepted.{Masking}
use Rattle.definitions.specs.Masking.{Way, mask_cell, masked}
use Rattle.definitions.proofs.Counts.{value-below}
use Rattle.definitions.proofs.Written.{mark-length, mark-at}
use Rattle.plan.specs.declared.season.Plan.{Plan}
use Rattle.plan.specs.Says.{Says}

module _ {P : List ℕ} {plan : Plan} (says : Says P plan) {C : Code} {F s v : List ℕ} (m : Masking C P F s)
    (e : v ≡ mark C P F) where
  pub cells_fit : (length v ≡ length s) × ((c : ℕ) → c < length s → at v c < plan.grid.modulus.p)
      × ((c : ℕ) → c < length s → (at s c < plan.grid.modulus.p) ⊎ (at s c ≡ unread))
  cells_fit = (
    ap length e ∙ mark-length C P F ∙ sym m.whole,
    (λ c l. let h = rw m.whole at l in simp says.modulus (rw (e, mark-at C P F c h) (value-below says.sound C F c))),
    λ c l. simp says.modulus (m.symbol c (rw m.whole at l)),
  )

  pub cells-masked : (W : Way) → tab (length s) (λ c. mask_cell W plan.grid.modulus.p (at s c) (at v c)) ≡ masked W C P F s
  unfolding masked
  cells-masked W = simp (m.whole, says.modulus, e) (tab-eq _ λ c l. ap (mask_cell W _ (at s c)) (mark-at C P F c l))
