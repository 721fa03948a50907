-- Finding a plan in a file.
--
--   season-bytes      the season of a part of the file is in its two bytes
--   find_at           a search that stops at row i of its refusals has that row's number
--   find-exactly      which number is given, by the bytes of the file
--   nowhere           the offset and the bytes of a refusal
--   first_of-season   what is found is the first plan of the season
--   found_part        the 40 bytes at its offset are in the file, and are its bytes
--
-- What this file is for: the finder's number by the row at which it stops, its offset by the plan at which it stops, and what
-- they say to a user. Assumes nothing.
use mathlib.Core.Path.{◌≡◌, sym, ap, ap₂, ◌∙◌}
use mathlib.Core.Logic.{◌≢◌}
use mathlib.Core.List.{List, []}
use Prim.Native.Nat.{ℕ, ◌+◌, ◌*◌, ◌-◌, ◌≤◌, ◌<◌}
use native.Mathlib.Omega.{arith}
use native.Mathlib.Nat.{add-zero, add-sub_cancel_left}
use lib.Dec.{lit<}
use lib.ListN.{length, take, drop}
use lib.Seq.{get_or-take, get_or-drop}
use borrow.Author.Tests.{eq-eqb, ne_eqb, eqb-true, eqb-false, not-false as passed}
use Rattle.bounded.specs.Bounded.{at}
use Rattle.bounded.proofs.Any.{some-any, none_any}
use Rattle.bounded.proofs.Index.{index-before, index-holds, index-within}
use Rattle.definitions.specs.Plan.{plan_bytes, pair, season}
use Rattle.definitions.specs.Finder.{plans, plan_at, of_season, first_plan, find_rows, find_number, find_offset, find_bytes}
use Rattle.definitions.specs.Demands.{FoundExactly, FirstOfSeason}
use Rattle.definitions.proofs.Refusals.{Stops, number_at, first-at, first-clear, otherwise}
use Rattle.definitions.proofs.Refusals.{equal, unequal, not-true, turned_true}

-- the season of the n bytes from byte a on is in the bytes from byte a on
season-from : (file : List ℕ) (a n : ℕ) → 1 < n → season (take n (drop a file)) ≡ season (drop a file)
season-from file a n l = ap₂ (λ a b. a * 256 + b) (byte 0 (omega arith)) (byte 1 l)
  where
    byte : (i : ℕ) → i < n → at (take n (drop a file)) i ≡ at (drop a file) i
    byte i l = get_or-take n (drop a file) i 0 l

pub season-bytes : (file : List ℕ) (a n : ℕ) → 1 < n → season (take n (drop a file)) ≡ pair file a
season-bytes file a n l = season-from file a n l ∙ ap₂ (λ a b. a * 256 + b) (byte 0 ∙ ap (at file) (add-zero a)) (byte 1)
  where
    byte : (i : ℕ) → at (drop a file) i ≡ at file (a + i)
    byte i = get_or-drop a file i 0

-- and that of plan k
plan-season : (file : List ℕ) (k : ℕ) → season (plan_at file k) ≡ season (drop (k * plan_bytes) file)
plan-season file k = season-from file (k * plan_bytes) plan_bytes (lit< tt)

module _ (file : List ℕ) (y : ℕ) where
  pub find_at : (i : ℕ) → Stops (find_rows file y) i → number_at (find_rows file y) i ≡ find_number file y
  unfolding find_number
  find_at i h = first-at (find_rows file y) i h

  pub find-exactly : FoundExactly file y
  unfolding find_rows
  find-exactly = record {
    broken = λ h. sym (find_at 0 (unequal _ _ h));
    found = λ e k l s. sym (find_at 2 (
      equal _ _ e,
      (not-true (some-any _ _ k (omega arith) (eq-eqb _ _ (plan-season file k ∙ s))), tt),
    ));
    absent = λ e h. sym (find_at 1 (
      equal _ _ e,
      turned_true (none_any _ _ λ k l. ne_eqb _ _ λ s. h k (omega arith) (sym (plan-season file k) ∙ s)),
    ));
  }

  pub nowhere : find_number file y ≢ 0 → (find_offset file y ≡ 0) × (find_bytes file y ≡ [])
  unfolding find_offset find_bytes
  nowhere h = (otherwise (find_number file y) _ _ h, otherwise (find_number file y) _ _ h)

  pub first_of-season : find_number file y ≡ 0 → FirstOfSeason file y
  unfolding find_number find_rows find_offset find_bytes
  first_of-season e = record {
    k = first_plan file y;
    offset = rw e;
    inside = omega (arith, within);
    bytes = rw e;
    same = rw e (eqb-true _ _ (index-holds (plans file) (of_season file y) within));
    before = λ i l s. eqb-false _ _ (index-before (plans file) (of_season file y) i l) (plan-season file i ∙ s);
  }
    where
      within : first_plan file y < plans file
      within = index-within (plans file) (of_season file y) (passed _ (first-clear (find_rows file y) tt e 1))

  pub found_part : {n a : ℕ} → n ≡ find_number file y → n ≡ 0 → a ≡ find_offset file y →
      (a + plan_bytes ≤ length file) × (take (a + plan_bytes - a) (drop a file) ≡ find_bytes file y)
  found_part {n} {a} e z o =
      let f = first_of-season (sym e ∙ z) in
      (omega (arith, f.inside, f.offset), rw (add-sub_cancel_left a plan_bytes, o, f.offset) (sym f.bytes))
