-- What the number of a call on a set says.
--
--   add-accepted, combine-accepted   what an accepted call knows of its arguments
--   keeps, gives                     what a refused call leaves, and an accepted one
--
-- What this file is for: the calls test a number, the definitions choose by it. Assumes nothing.
use mathlib.Core.Path.{◌≡◌, sym, ap, ◌∙◌}
use mathlib.Core.Logic.{◌≢◌}
use mathlib.Core.List.{List}
use Prim.Native.Nat.{ℕ, ◌≤◌}
use native.Mathlib.Omega.{arith}
use lib.ListN.{length}
use borrow.Author.Tests.{eqb-true, not-false}
use Rattle.definitions.specs.Refusals.{Refusal, accepted}
use Rattle.definitions.specs.Plan.{plan_rows, check_number}
use Rattle.definitions.specs.Code.{oblong, cells}
use Rattle.definitions.specs.Sets.{set_plan, add_number, combine_tests, combine_rows, combine_number}
use Rattle.definitions.proofs.Refusals.{first-clear, first_both, otherwise}
use Rattle.definitions.proofs.Sound.{sound, cells-most}
use Rattle.definitions.proofs.Sets.{accepted_adding}

pub add-accepted : (S : List ℕ) (k : ℕ) (s u : List ℕ) → add_number S k s u ≡ 0 → (k ≤ 8) × (length s ≤ 256)
add-accepted S k s u e =
    let (plan, new, _) = accepted_adding S k s u e in
    (omega (arith, new.low), omega (arith, new.whole, cells-most oblong plan))

module _ (S B D : List ℕ) where
  abbrev combining : List Refusal
  combining = combine_tests B D (cells oblong (set_plan S))

  pub combine-accepted : combine_number S B D ≡ 0 →
      (length B ≡ cells oblong (set_plan S)) × (length B ≤ 256) × (length D ≡ length B)
  unfolding combine_number combine_rows plan_rows check_number
  combine-accepted e =
      let b = first_both (plan_rows (set_plan S)) combining tt e in
      let c = first-clear combining tt b.1 in
      let l : length B ≡ cells oblong (set_plan S) = eqb-true _ _ (not-false _ (c 0)) in
      let m : length D ≡ cells oblong (set_plan S) = eqb-true _ _ (not-false _ (c 1)) in
      (l, omega (arith, l, cells-most oblong (sound (set_plan S) b.0)), m ∙ sym l)

module _ {A : Type 0} {k : ℕ} (n : ℕ) (a b : A) (e : k ≡ n) where
  pub keeps : k ≢ 0 → b ≡ accepted n a b
  keeps h = sym (otherwise n a b λ z. h (e ∙ z))

  pub gives : k ≡ 0 → a ≡ accepted n a b
  gives z = ap (λ k. accepted k a b) (sym z ∙ e)
