-- The records of a plan file, as an iterator gives them.
--
--   located     a search along the records that says of each whether it is of the season finds the first that is
--   not-found   of a refusal the offset is 0
--
-- What this file is for: what `position` says of the records it looked at, as facts of the file. Assumes nothing.
use mathlib.Core.Path.{◌≡◌, refl, sym, ap, ◌∙◌}
use mathlib.Core.Logic.{◌≢◌}
use mathlib.Core.Bool.{true, false, false≢true}
use mathlib.Core.List.{List, []}
use Prim.Native.Nat.{ℕ, ◌+◌, ◌*◌, ◌≤◌, ◌<◌}
use native.Mathlib.Omega.{arith}
use lib.ListN.{length}
use denote.Bor.{Bor}
use borrow.Author.Tests.{eq-eqb, ne_eqb}
use Rattle.std.specs.Prelude.{Option, Some, None, IsSomeAnd, IfSome, MatchOption, option_map, Result, Ok, Err, IsErr}
use Rattle.std.specs.Iterator.Runs.{Run, IsChunksExactRun, AllItems, AllItemsBelow}
use Rattle.bounded.proofs.Any.{none_any}
use Rattle.bounded.proofs.Index.{index-none, index_is}
use Rattle.definitions.specs.declared.Refusal.{Refusal}
use Rattle.definitions.specs.Numbers.{number_of}
use Rattle.definitions.specs.Plan.{plan_bytes, season}
use Rattle.definitions.specs.Finder.{plans, plan_at, of_season, first_plan, find_number, find_offset}
use Rattle.definitions.proofs.Numbers.{number-some}
use Rattle.definitions.proofs.Finder.{nowhere}
use Rattle.plan.specs.Found.{offset_of}

module _ (file : List ℕ) (y : ℕ) {S : Type 0} {steps : S → Option (Bor (List ℕ)) → S → Type 0} (u : Run steps)
    (records : IsChunksExactRun u plan_bytes file) where
  item : (k : ℕ) (x : Bor (List ℕ)) → u.at k ≡ Some x → (k * plan_bytes + plan_bytes ≤ length file) × (x.now ≡ plan_at file k)
  item k x e = let r = rw e at (records.2 k) in (r.1, r.2.0)

  module _ (Is Other : Bor (List ℕ) → Type 0) (is : (x : Bor (List ℕ)) → Is x → season x.now ≡ y)
      (is_not : (x : Bor (List ℕ)) → Other x → season x.now ≢ y) where
    before : (k : ℕ) (o : Option (Bor (List ℕ))) → u.at k ≡ o → IsSomeAnd o Other → of_season file y k ≡ false
    before k None e h = absurd h
    before k (Some x) e h = ne_eqb _ _ λ s. is_not x h (ap season (item k x e).1 ∙ s)

    here : (k : ℕ) (o : Option (Bor (List ℕ))) → u.at k ≡ o → IsSomeAnd o Is → (k < plans file) × (season (plan_at file k) ≡ y)
    here k None e h = absurd h
    here k (Some x) e h = let r = item k x e in (omega (arith, r.0), ap season (sym r.1) ∙ is x h)

    -- there is an item at every place before the end
    each : AllItems u Other → (k : ℕ) → k < u.len → IsSomeAnd (u.at k) Other
    each h k l = go (u.at k) (u.reads k (record { ref_ptr = (0, 0); now = [] }) l) (h k)
      where
        go : (o : Option (Bor (List ℕ))) {x : Bor (List ℕ)} → option_map (λ y. y) o ≡ Some x → IfSome o Other → IsSomeAnd o Other
        go None e h = cc
        go (Some x) e h = h

    pub located : {Keeps : Type 0} → Keeps → (r : Option ℕ) → MatchOption r ((u.whole ≡ true) × (Keeps → AllItems u Other))
        (λ k. (u.len ≡ k + 1) × (Keeps → IsSomeAnd (u.at k) Is × AllItemsBelow u k Other)) →
        MatchOption r (first_plan file y ≡ plans file) (λ k. (k < plans file) × (k ≡ first_plan file y))
    located keeps None (w, h) = index-none (plans file) _
        (none_any _ _ λ k l. before k (u.at k) refl (each (h keeps) k (omega (arith, records.1 w))))
    located keeps (Some k) (_, h) =
        let (i, b) = h keeps in
        let (l, s) = here k (u.at k) refl i in
        (l, sym (index_is (plans file) _ k l (none_any k _ λ j m. before j (u.at j) refl (b j m)) (eq-eqb _ _ s)))

-- of a refusal the offset is 0
pub not-found : (file : List ℕ) (y : ℕ) (r : Result ℕ Refusal) → IsErr r → number_of r ≡ find_number file y →
    offset_of r ≡ find_offset file y
not-found file y (Ok x) h e = absurd (false≢true h)
not-found file y (Err d) h e = sym (nowhere file y λ z. number-some d (e ∙ z)).0
