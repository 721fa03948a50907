-- The laws of explaining: the reason by what measuring and reading say.
--
--   explains_refused                   a refusal: its number, and the buffer stays
--   explains_answer                    the expected record costs under the radius
--   read_finds                         what a reading finds: the record that it leaves in the buffer, or none
--   read-near                          that record is one of the plan, within the radius
--   explains_other, explains_nothing   the expected record does not cost so little, and a reading finds another, or none
--
-- What this file is for: an explainer measures the expected record and reads the photograph, and has the definition's reason and
-- buffer. Assumes nothing.
use mathlib.Core.Path.{◌≡◌, refl, sym, ap, ◌∙◌}
use mathlib.Core.Logic.{◌⊎◌, inl, inr}
use mathlib.Core.Bool.{true, false}
use mathlib.Core.List.{List}
use mathlib.Core.Option.{Option, some, none}
use Prim.Native.Nat.{ℕ, zero, suc, ◌-◌, ◌≤◌, ◌<◌}
use native.Mathlib.Omega.{arith}
use borrow.Author.Tests.{eqb-true, not-false}
use Rattle.bounded.specs.Bounded.{at}
use Rattle.bounded.proofs.Any.{any_none, none_any}
use Rattle.bounded.proofs.Tab.{list_eq}
use Rattle.definitions.specs.declared.Reading.{Reading}
use Rattle.definitions.specs.declared.Reason.TheVariants.{Refused, Answer, Other, Nothing}
use Rattle.definitions.specs.Refusals.{accepted}
use Rattle.definitions.specs.Plan.{modulus}
use Rattle.definitions.specs.Code.{Code, size, IsRecord}
use Rattle.definitions.specs.Cost.{radius}
use Rattle.definitions.specs.Calls.{cost_of, within, nearest, the}
use Rattle.definitions.specs.Explaining.{explain_number, explain_reason, explain_buffer}
use Rattle.definitions.specs.Explaining.{different, differing_place, reason_for, leaves}
use Rattle.definitions.specs.Accepted.{Expecting}
use Rattle.definitions.specs.Reads.{Reads, Explains}
use Rattle.definitions.proofs.Refusals.{equal, holds}
use Rattle.definitions.proofs.Photograph.{photo-accepted}
use Rattle.definitions.proofs.Accepted.{explaining_accepted}
use Rattle.definitions.proofs.Search.{search-the}
use Rattle.definitions.proofs.Nearest.{within-cost, cost-within, reads_found, nearest_says}
use Rattle.definitions.proofs.Unique.{at_most_one}

module _ (C : Code) (P s u F B : List ℕ) where
  -- the reason from the number and what the search finds
  explains : {k : ℕ} {o : Option (List ℕ)} → explain_number C P s u F B ≡ k → nearest C P s u ≡ o →
      Explains C P s u F B (accepted k (reason_for C P s u F o) (Refused k))
      (leaves (accepted k (reason_for C P s u F o) (Refused k)) (the o) B)
  unfolding explain_reason explain_buffer
  explains e m = record { reason = rw (e, m); buffer = rw (e, m) }

  pub explains_refused : (k : ℕ) → k ≡ explain_number C P s u F B → (k ≡ 0 → ⊥) → Explains C P s u F B (Refused k) B
  explains_refused zero e h = absurd (h refl)
  explains_refused (suc k) e h = explains (sym e) refl

  module _ (x : Expecting C P s u F B) where
    -- records are different as lists exactly where some coefficient is
    other-record : {G : List ℕ} → IsRecord C P G → (F ≡ G → ⊥) → different C P F G ≡ true
    other-record {G} g n = holds (different C P F G) λ t. n (list_eq F G (x.given.size ∙ sym g.size) λ i l.
        eqb-true _ _ (not-false _ (any_none _ _ t i (omega (arith, x.given.size)))))

    itself : different C P F F ≡ false
    itself = none_any _ _ λ i l. equal (at F i) (at F i) refl

    pub explains_answer : cost_of C P s u F < radius C P → Explains C P s u F B Answer B
    unfolding nearest
    explains_answer l =
        let one = at_most_one C P s u x.photo in
        let m = search-the (modulus P) (size C P) (within C P s u) one F x.given (cost-within C P s u F l) in
        rw itself at (explains (explaining_accepted C P s u F B x) m)

    module _ {r : Reading} {b : List ℕ} (h : Reads C P s u B r b) where
      pub read_finds : ((r.number ≡ 0) × (nearest C P s u ≡ some b)) ⊎ ((r.number ≡ 10) × (nearest C P s u ≡ none) × (b ≡ B))
      read_finds = reads_found C P s u B (photo-accepted C P s u B x.photo x.room) h

      found : r.number ≡ 0 → nearest C P s u ≡ some b
      found z = elim read_finds [ inl (_, m) ↦ m | inr (t, _, _) ↦ absurd (omega (arith, z, t)) ]

      pub read-near : r.number ≡ 0 → IsRecord C P b × (cost_of C P s u b < radius C P)
      read-near z = let (g, t) = rw (found z) at (nearest_says C P s u) in (g, within-cost C P s u b t)

      pub explains_other : radius C P ≤ cost_of C P s u F → r.number ≡ 0 →
          Explains C P s u F B (Other (differing_place C P F b)) b
      explains_other l z =
          let (g, k) = read-near z in
          let n : F ≡ b → ⊥ = λ e. omega (arith, l, ap (cost_of C P s u) e, k) in
          rw (other-record g n) at (explains (explaining_accepted C P s u F B x) (found z))

      pub explains_nothing : (r.number ≡ 0 → ⊥) → Explains C P s u F B (Nothing (cost_of C P s u F - radius C P)) b
      explains_nothing n = elim read_finds [
        | inl (z, _) ↦ absurd (n z)
        | inr (_, m, e) ↦ rw e (explains (explaining_accepted C P s u F B x) m)
      ]
