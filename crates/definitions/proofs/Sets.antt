-- The calls on sets, whatever bytes the memory has.
--
--   add-refused, combine-refused   the number of the plan in the memory, where it is refused
--   add_passes, combine_passes     past the plan, that of the tests after its own
--   withdraw-at                    the number of the test at which a withdrawing stops
--   accepted_adding                what an accepted photograph is: one of a sound plan, under a number that was free
--   start-keeps, add-keeps, withdraw-keeps
--                                  a refused call leaves every byte of the memory
--   combine-keeps                  and of the two buffers
--
-- What this file is for: nothing is asked of the memory, and a refused call changes nothing. Assumes nothing.
use mathlib.Core.Path.{◌≡◌}
use mathlib.Core.Logic.{◌≢◌}
use mathlib.Core.List.{List}
use Prim.Native.Nat.{ℕ}
use native.Mathlib.Omega.{arith}
use borrow.Author.Tests.{eqb-true, ltb-false, not-false}
use Rattle.bounded.specs.Bounded.{at}
use Rattle.definitions.specs.Refusals.{Refusal, first}
use Rattle.definitions.specs.Plan.{modulus, plan_rows, check_number}
use Rattle.definitions.specs.Code.{oblong, cells}
use Rattle.definitions.specs.Cost.{full}
use Rattle.definitions.specs.Sound.{Sound}
use Rattle.definitions.specs.Sets.{set_plan, flag, started, start_memory, added, add_tests, add_rows, add_number, add_memory}
use Rattle.definitions.specs.Sets.{withdrawn, withdraw_rows, withdraw_number, withdraw_memory}
use Rattle.definitions.specs.Sets.{combined_symbols, combined_doubts, combine_tests, combine_rows, combine_number}
use Rattle.definitions.specs.Sets.{combine_symbols, combine_doubts}
use Rattle.definitions.specs.Histories.{Stored}
use Rattle.definitions.proofs.Refusals.{first-clear, first_both, Stops, number_at, first-at, first-refuses, first_passes}
use Rattle.definitions.proofs.Refusals.{otherwise}
use Rattle.definitions.proofs.Sound.{sound}
use Rattle.definitions.proofs.Photograph.{symbols-fit}

pub start-keeps : (P S : List ℕ) → check_number P ≢ 0 → start_memory P S ≡ S
unfolding start_memory
start-keeps P S n = otherwise (check_number P) (started P) S n

module _ (S : List ℕ) (k : ℕ) (s u : List ℕ) where
  abbrev adding : List Refusal
  adding = add_tests (modulus (set_plan S)) (full (set_plan S)) S k s u (cells oblong (set_plan S))

  pub add-refused : (j : ℕ) → j ≡ check_number (set_plan S) → j ≢ 0 → j ≡ add_number S k s u
  unfolding add_number add_rows plan_rows check_number
  add-refused j e n = first-refuses (plan_rows (set_plan S)) adding tt j e n

  pub add_passes : check_number (set_plan S) ≡ 0 → first adding ≡ add_number S k s u
  unfolding add_number add_rows plan_rows check_number
  add_passes = first_passes (plan_rows (set_plan S)) adding tt

  pub accepted_adding : add_number S k s u ≡ 0 → Sound (set_plan S) × Stored (set_plan S) k s × (at S (flag k) ≡ 0)
  unfolding add_number add_rows plan_rows check_number
  accepted_adding e =
      let b = first_both (plan_rows (set_plan S)) adding tt e in
      let clear = first-clear adding tt b.1 in (
        sound (set_plan S) b.0,
        record {
          low = omega (arith, ltb-false 8 k (clear 2));
          whole = eqb-true _ _ (not-false _ (clear 0));
          symbols = symbols-fit oblong (set_plan S) s u (clear 4);
        },
        eqb-true _ _ (not-false _ (clear 3)),
      )

  pub add-keeps : add_number S k s u ≢ 0 → add_memory S k s u ≡ S
  unfolding add_memory
  add-keeps n = otherwise (add_number S k s u) (added S k s) S n

module _ (S : List ℕ) (k : ℕ) where
  pub withdraw-at : (i : ℕ) → Stops (withdraw_rows S k) i → number_at (withdraw_rows S k) i ≡ withdraw_number S k
  unfolding withdraw_number
  withdraw-at i h = first-at (withdraw_rows S k) i h

  pub withdraw-keeps : withdraw_number S k ≢ 0 → withdraw_memory S k ≡ S
  unfolding withdraw_memory
  withdraw-keeps n = otherwise (withdraw_number S k) (withdrawn S k) S n

module _ (S B D : List ℕ) where
  abbrev combining : List Refusal
  combining = combine_tests B D (cells oblong (set_plan S))

  pub combine-refused : (j : ℕ) → j ≡ check_number (set_plan S) → j ≢ 0 → j ≡ combine_number S B D
  unfolding combine_number combine_rows plan_rows check_number
  combine-refused j e n = first-refuses (plan_rows (set_plan S)) combining tt j e n

  pub combine_passes : check_number (set_plan S) ≡ 0 → first combining ≡ combine_number S B D
  unfolding combine_number combine_rows plan_rows check_number
  combine_passes = first_passes (plan_rows (set_plan S)) combining tt

  pub combine-keeps : combine_number S B D ≢ 0 → (combine_symbols S B D ≡ B) × (combine_doubts S B D ≡ D)
  unfolding combine_symbols combine_doubts
  combine-keeps n = (
    otherwise (combine_number S B D) (combined_symbols S) B n,
    otherwise (combine_number S B D) (combined_doubts S) D n,
  )
