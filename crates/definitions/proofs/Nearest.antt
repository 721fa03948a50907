-- When a reading is right.
--
--   within-cost, cost-within     a record passes the test exactly where it costs under the radius
--   without_cost, cost_without   and fails it exactly where it costs the radius or more
--   reads_refused                a refusal of the plan, or of 6 to 8
--   reads_none                   10, where no record is within the radius
--   reads_the                    the record within it, where there is at most one
--   zero_or_ten                  past 1 to 8 the number is 0 or 10
--   nearest_says                 what the search finds, a record within the radius or none
--   reads_found                  a reading that is not refused is of what the search finds, and one of number 10 of none
--
-- What this file is for: a reader proves one of three cases, and has the definition's reading and buffer; whoever calls one has
-- what the search finds. Assumes nothing.
use mathlib.Core.Path.{◌≡◌, refl, sym, ap, ap₂, ◌∙◌}
use mathlib.Core.Logic.{◌⊎◌, inl, inr}
use mathlib.Core.Bool.{true, false}
use mathlib.Core.List.{List, [], ◌∷◌}
use mathlib.Core.Option.{Option, some, none}
use Prim.Native.Nat.{ℕ, suc, ◌≤◌, ◌<◌}
use native.Mathlib.Omega.{arith}
use borrow.Author.Tests.{ltb-true, ltb-false, lt-ltb, le-ltb}
use Rattle.definitions.specs.declared.Reading.{Reading}
use Rattle.definitions.specs.Refusals.{Refusal, ◌when◌, first, accepted}
use Rattle.definitions.specs.Plan.{modulus, plan_rows}
use Rattle.definitions.specs.Code.{Code, size, IsRecord}
use Rattle.definitions.specs.Cost.{radius}
use Rattle.definitions.specs.Calls.{photo_rows, refused, cost_of, reading_of, within, nearest, missing, the}
use Rattle.definitions.specs.Calls.{read_rows, read_number, read_reading, read_buffer}
use Rattle.definitions.specs.Reads.{Reads}
use Rattle.definitions.proofs.Refusals.{first-append}
use Rattle.definitions.proofs.Search.{SearchSays, search_says, search-none, search-the}

-- the test as facts
module _ (C : Code) (P s u F : List ℕ) where
  pub within-cost : within C P s u F ≡ true → cost_of C P s u F < radius C P
  unfolding within
  within-cost t = ltb-true (cost_of C P s u F) (radius C P) t

  pub cost-within : cost_of C P s u F < radius C P → within C P s u F ≡ true
  unfolding within
  cost-within l = lt-ltb (cost_of C P s u F) (radius C P) l

  pub without_cost : within C P s u F ≡ false → radius C P ≤ cost_of C P s u F
  unfolding within
  without_cost t = ltb-false (cost_of C P s u F) (radius C P) t

  pub cost_without : (cost_of C P s u F < radius C P → ⊥) → within C P s u F ≡ false
  unfolding within
  cost_without h = le-ltb (cost_of C P s u F) (radius C P) (omega arith)

module _ (C : Code) (P s u B : List ℕ) where
  -- from the number and what the search finds
  reads : {k : ℕ} {o : Option (List ℕ)} → read_number C P s u B ≡ k → nearest C P s u ≡ o →
      Reads C P s u B (accepted k (reading_of C P s u (the o)) (refused k)) (accepted k (the o) B)
  unfolding read_reading read_buffer
  reads n m = record {
    reading = sym (ap₂ (λ k o. accepted k (reading_of C P s u (the o)) (refused k)) n m);
    buffer = sym (ap₂ (λ k o. accepted k (the o) B) n m);
  }

  abbrev last : Option (List ℕ) → List Refusal
  last o = (10 when missing o) ∷ []

  number : {k : ℕ} {o : Option (List ℕ)} → first (photo_rows C P s u B) ≡ k → nearest C P s u ≡ o →
      read_number C P s u B ≡ accepted k (first (last o)) k
  unfolding first plan_rows photo_rows read_rows read_number
  number e m = first-append (photo_rows C P s u B) (last (nearest C P s u)) tt ∙ ap₂ (λ k o. accepted k (first (last o)) k) e m

  pub reads_refused : (k : ℕ) → first (photo_rows C P s u B) ≡ suc k → Reads C P s u B (refused (suc k)) B
  reads_refused k e = reads (number e refl) refl

  module _ (e : first (photo_rows C P s u B) ≡ 0) where
    pub reads_none : ((F : List ℕ) → IsRecord C P F → within C P s u F ≡ false) → Reads C P s u B (refused 10) B
    unfolding first nearest
    reads_none h = reads (number e m) m
      where
        m : nearest C P s u ≡ none
        m = search-none (modulus P) (size C P) (within C P s u) h

    pub reads_the : ((F G : List ℕ) → IsRecord C P F → IsRecord C P G → within C P s u F ≡ true → within C P s u G ≡ true →
        F ≡ G) → (F : List ℕ) → IsRecord C P F → within C P s u F ≡ true → Reads C P s u B (reading_of C P s u F) F
    unfolding first nearest
    reads_the one F x t = reads (number e m) m
      where
        m : nearest C P s u ≡ some F
        m = search-the (modulus P) (size C P) (within C P s u) one F x t

    pub zero_or_ten : (read_number C P s u B ≡ 0) ⊎ (read_number C P s u B ≡ 10)
    unfolding first
    zero_or_ten = go (nearest C P s u) refl
      where
        go : (o : Option (List ℕ)) → nearest C P s u ≡ o → (read_number C P s u B ≡ 0) ⊎ (read_number C P s u B ≡ 10)
        go (some F) m = inl (number e m)
        go none m = inr (number e m)

    pub reads_found : {r : Reading} {b : List ℕ} → Reads C P s u B r b →
        ((r.number ≡ 0) × (nearest C P s u ≡ some b)) ⊎ ((r.number ≡ 10) × (nearest C P s u ≡ none) × (b ≡ B))
    unfolding first reading_of
    reads_found {r} {b} h = go (nearest C P s u) refl
      where
        go : (o : Option (List ℕ)) → nearest C P s u ≡ o →
            ((r.number ≡ 0) × (nearest C P s u ≡ some b)) ⊎ ((r.number ≡ 10) × (nearest C P s u ≡ none) × (b ≡ B))
        go (some F) m =
            let t = reads (number e m) m in
            inl (ap (λ a. a.number) (h.reading ∙ sym t.reading), m ∙ ap some (t.buffer ∙ sym h.buffer))
        go none m =
            let t = reads (number e m) m in
            inr (ap (λ a. a.number) (h.reading ∙ sym t.reading), m, h.buffer ∙ sym t.buffer)

pub nearest_says : (C : Code) (P s u : List ℕ) → SearchSays (modulus P) (size C P) (within C P s u) (nearest C P s u)
unfolding nearest
nearest_says C P s u = search_says (modulus P) (size C P) (within C P s u)
