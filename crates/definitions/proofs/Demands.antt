-- Demand 3, since at most one record is within the radius.
--
--   nearest-one   reading is the nearest record's, with all that demand 3 says
--
-- What this file is for: the customer's third demand, for strips and for marks of any sides. Assumes nothing.
use mathlib.Core.Path.{◌≡◌, refl, sym, ap, ◌∙◌}
use mathlib.Core.List.{List}
use Prim.Native.Nat.{ℕ, zero, suc, ◌≤◌, ◌<◌}
use native.Mathlib.Omega.{arith}
use native.Mathlib.Decide.{dec_lt}
use lib.ListN.{length}
use Rattle.definitions.specs.Refusals.{first, accepted}
use Rattle.definitions.specs.Code.{Code, size, IsRecord}
use Rattle.definitions.specs.Cost.{radius}
use Rattle.definitions.specs.Calls as calls
use Rattle.definitions.specs.Calls.{photo_rows, cost_of, the, reading_of, read_reading, read_buffer, read_number}
use Rattle.definitions.specs.Photograph.{Photograph}
use Rattle.definitions.specs.Demands.{Nearest}
use Rattle.definitions.proofs.Photograph.{photo-accepted}
use Rattle.definitions.proofs.Nearest.{cost-within, cost_without, reads_none, reads_the}
use Rattle.definitions.proofs.Unique.{at_most_one}

module _ (C : Code) (P s u B : List ℕ) (photo : Photograph C P s u) (buffer : length B ≡ size C P) where
  clear : first (photo_rows C P s u B) ≡ 0
  clear = photo-accepted C P s u B photo buffer

  found : (F : List ℕ) → IsRecord C P F → cost_of C P s u F < radius C P →
      (read_reading C P s u B ≡ reading_of C P s u F) × (read_buffer C P s u B ≡ F)
  found F r l =
      let h = reads_the C P s u B clear (at_most_one C P s u photo) F r (cost-within C P s u F l) in
      (sym h.reading, sym h.buffer)

  -- the number stands in the reading
  number : (read_reading C P s u B).number ≡ read_number C P s u B
  unfolding read_reading reading_of
  number = go (read_number C P s u B) (the (calls.nearest C P s u))
    where
      go : (k : ℕ) (F : List ℕ) → (accepted k (reading_of C P s u F) (calls.refused k)).number ≡ k
      go zero F = refl
      go (suc k) F = refl

  accepted-number : (F : List ℕ) → (reading_of C P s u F).number ≡ 0
  unfolding reading_of
  accepted-number F = refl

  none : ((F : List ℕ) → IsRecord C P F → radius C P ≤ cost_of C P s u F) →
      (read_reading C P s u B ≡ calls.refused 10) × (read_buffer C P s u B ≡ B)
  none z =
      let h = reads_none C P s u B clear (λ F r. cost_without C P s u F λ l. omega (arith, l, z F r)) in
      (sym h.reading, sym h.buffer)

  ten : read_number C P s u B ≡ 10 → (F : List ℕ) → IsRecord C P F → radius C P ≤ cost_of C P s u F
  ten e F r = elim (dec_lt (cost_of C P s u F) (radius C P)) [
    | yes m ↦ absurd (omega (arith, e, number, accepted-number F, ap (λ a. a.number) (found F r m).0))
    | no m ↦ omega arith
  ]

  pub nearest-one : Nearest C P s u B
  nearest-one = record {
    alone = λ F G r q n l. elim (dec_lt (cost_of C P s u G) (radius C P)) [
      | yes m ↦ absurd (n (at_most_one C P s u photo F G r q (cost-within C P s u F l) (cost-within C P s u G m)))
      | no m ↦ omega arith
    ];
    returned = found;
    exactly = (ten, λ z. sym number ∙ ap (λ a. a.number) (none z).0);
    refuses = none;
  }
