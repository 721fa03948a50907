-- A plan is sound exactly when its check gives 0, and else gets the number of the first row that it breaks.
--
--   sound, checked     from the number 0 to the facts, and back
--   check-at           the check that stops at row i gives that row's number
--   checked_exactly    which number the check gives, by the first row of the table that the plan breaks
--   fits               a side that its test does not find unfit
--   zeros, filled-no   bytes that are 0, from their test to the facts, and back
--   placed, in_place   points in their sixteen bytes, from their test to the facts, and back
--   cells-most         strips and marks of a sound plan have at most 256 cells
--
-- What this file is for: the facts of a sound plan for whoever was given the number 0, and the number for whoever has the facts.
-- Assumes nothing.
use mathlib.Core.Path.{◌≡◌, refl, sym, ap}
use mathlib.Core.Bool.{Bool, true, false, not}
use mathlib.Core.List.{List}
use Prim.Native.Nat.{ℕ, zero, suc, ◌+◌, ◌-◌, ◌≤◌, ◌<◌, min}
use native.Mathlib.Omega.{arith}
use native.Mathlib.Decide.{dec_lt}
use native.Mathlib.Numerals.{add-one}
use native.Mathlib.Nat.{mul-le-mul}
use lib.Dec.{eqb, ltb, leb, lit≤, lit<}
use lib.ListN.{length}
use borrow.Author.Tests.{leb-false, ltb-false, eqb-true, eqb-false, not-false, lt-leb, lt-ltb, le-ltb, le-leb, ne_eqb}
use Rattle.bounded.specs.Bounded.{at}
use Rattle.bounded.proofs.Any.{any_none, none_any}
use Rattle.bounded.proofs.Parts.{neither, nor}
use Rattle.field.specs.Prime.{is_prime}
use Rattle.field.proofs.Prime.{is_prime_lem, prime-is}
use Rattle.definitions.specs.Plan.{plan_bytes, modulus, rows, columns, degree, filled, unfit, unrisen, wrong_point, misplaced}
use Rattle.definitions.specs.Plan.{plan_rows, check_number}
use Rattle.definitions.specs.Code.{Code, strip, oblong, cells}
use Rattle.definitions.specs.Sound.{IsSide, PointsFrom, Sound}
use Rattle.definitions.specs.Demands.{CheckedExactly, Whole, IsModulus}
use Rattle.definitions.proofs.Refusals.{test_at, first-clear, Stops, number_at, first-at, ◌&◌}
use Rattle.definitions.proofs.Refusals.{equal, holds, not-true}

-- the n bytes from byte a on are 0
pub zeros : (P : List ℕ) (a n : ℕ) → filled P a n ≡ false → (i : ℕ) → a ≤ i → i < a + n → at P i ≡ 0
zeros P a n h i l m =
    let e : a + (i - a) ≡ i = omega arith in
    let z : at P (a + (i - a)) ≤ 0 = ltb-false _ _ (any_none _ _ h (i - a) (omega arith)) in
    omega (arith, ap (at P) e)

pub filled-no : (P : List ℕ) (a n : ℕ) → ((i : ℕ) → a ≤ i → i < a + n → at P i ≡ 0) → filled P a n ≡ false
filled-no P a n h = none_any _ _ λ i l.
    let z : at P (a + i) ≤ 0 = omega (arith, h (a + i) (omega arith) (omega arith)) in
    le-ltb _ _ z

-- a side that fits, and one that a test finds unfit
pub fits : (p n : ℕ) → unfit p n ≡ false → IsSide p n
fits p n h =
    let (a, b) = neither (eqb n 0) _ h in
    let (c, d) = neither (ltb 16 n) _ b in
    record { some = eqb-false _ _ a; most = ltb-false _ _ c; room = ltb-false _ _ d }

fitting : (p n : ℕ) → IsSide p n → unfit p n ≡ false
fitting p n F = nor (ne_eqb _ _ F.some) (nor (le-ltb _ _ F.most) (le-ltb _ _ F.room))

-- the same of n points in the sixteen bytes from byte a on
pub placed : (P : List ℕ) (a n : ℕ) → n ≤ 16 → misplaced P a n ≡ false → PointsFrom P a n
placed P a n k h = record {
  below = λ i l. leb-false _ _ (point i l).0;
  rising = λ i l. rw (add-one i) (leb-false _ _ (point (suc i) (omega arith)).1);
  unused = λ i l m.
      let z : at P (a + i) ≤ 0 = ltb-false _ _ (rw (le-ltb i n l) at (any_none 16 (wrong_point P a n) h i m)) in omega arith;
}
  where
    point : (i : ℕ) → i < n → (leb (modulus P) (at P (a + i)) ≡ false) × (unrisen P a i ≡ false)
    point i l = neither (leb (modulus P) (at P (a + i))) (unrisen P a i)
        (rw (lt-ltb i n l) at (any_none 16 (wrong_point P a n) h i (omega arith)))

pub in_place : (P : List ℕ) (a n : ℕ) → PointsFrom P a n → misplaced P a n ≡ false
in_place P a n F = none_any 16 (wrong_point P a n) λ i l. elim (dec_lt i n) [
  | yes m ↦ rw (lt-ltb i n m) (nor (lt-leb _ _ (F.below i m)) (risen i m))
  | no m ↦ let k : n ≤ i = omega arith in rw (le-ltb i n k, F.unused i k l)
]
  where
    risen : (i : ℕ) → i < n → unrisen P a i ≡ false
    risen zero m = refl
    risen (suc i) m = lt-leb _ _ (rw (add-one i) at (F.rising i (omega arith)))

pub sound : (P : List ℕ) → check_number P ≡ 0 → Sound P
unfolding check_number plan_rows
sound P e = record {
  whole = eqb-true _ _ (not-false _ (c 0));
  prime = is_prime_lem _ (not-false _ (c 2));
  small = ltb-false _ _ (c 3);
  tall = fits _ _ (c 4);
  wide = fits _ _ (c 5);
  low = leb-false _ _ (c 6);
  row_points = placed P 6 (rows P) (fits _ _ (c 4)).most (c 7);
  column_points = placed P 22 (columns P) (fits _ _ (c 5)).most (c 8);
  spare = λ i l m. zeros P 38 2 (c 1) i l m;
}
  where
    c : (i : ℕ) → test_at (plan_rows P) i ≡ false
    c = first-clear (plan_rows P) tt e

pub check-at : (P : List ℕ) (i : ℕ) → Stops (plan_rows P) i → number_at (plan_rows P) i ≡ check_number P
unfolding check_number
check-at P i h = first-at (plan_rows P) i h

module _ (P : List ℕ) where
  -- rows that do not apply, before others
  clear_whole : {A : Type 0} → Whole P → A → (not (eqb (length P) plan_bytes) ≡ false) × ((filled P 38 2 ≡ false) × A)
  clear_whole (w, z) a = equal _ _ w & filled-no P 38 2 (λ i l m. go i l m (dec_lt i 39)) & a
    where
      go : (i : ℕ) → 38 ≤ i → i < 40 → Dec (i < 39) → at P i ≡ 0
      go i l m (yes k) = let e : i ≡ 38 = omega arith in rw e z.0
      go i l m (no k) = let e : i ≡ 39 = omega arith in rw e z.1

  clear-modulus : {A : Type 0} → IsModulus (modulus P) → A →
      (not (is_prime (modulus P)) ≡ false) × ((ltb 251 (modulus P) ≡ false) × A)
  clear-modulus (p, m) a = not-true (prime-is _ p) & le-ltb _ _ m & a

  clear_sides : {A : Type 0} → IsSide (modulus P) (rows P) → IsSide (modulus P) (columns P) → A →
      (unfit (modulus P) (rows P) ≡ false) × ((unfit (modulus P) (columns P) ≡ false) × A)
  clear_sides t w a = fitting _ _ t & fitting _ _ w & a

  pub checked : Sound P → check_number P ≡ 0
  unfolding plan_rows
  checked S = sym (check-at P 9
      (clear_whole (S.whole, (S.spare 38 (lit≤ tt) (lit< tt), S.spare 39 (lit≤ tt) (lit< tt)))
      (clear-modulus (S.prime, S.small)
      (clear_sides S.tall S.wide
      (lt-leb _ _ S.low & in_place P 6 (rows P) S.row_points & in_place P 22 (columns P) S.column_points & tt)))))

  pub checked_exactly : CheckedExactly P
  unfolding plan_rows
  checked_exactly = record {
    one = λ n. one n (not (eqb (length P) plan_bytes)) refl;
    two = λ w n. two w n (not (is_prime (modulus P))) refl;
    three = λ w m n. sym (check-at P 4 (clear_whole w (clear-modulus m (holds _ λ e. n (fits _ _ e)))));
    thirteen = λ w m t n.
        sym (check-at P 5 (clear_whole w (clear-modulus m (fitting _ _ t & holds _ (λ e. n (fits _ _ e))))));
    four = λ w m t u h. sym (check-at P 6 (clear_whole w (clear-modulus m (clear_sides t u (le-leb _ _ h)))));
    five = λ w m t u h n. five w m t u h n (misplaced P 6 (rows P)) refl;
  }
    where
      one : ¬ (Whole P) → (b : Bool) → not (eqb (length P) plan_bytes) ≡ b → check_number P ≡ 1
      one n true e = sym (check-at P 0 e)
      one n false e = sym (check-at P 1 (e & holds _ λ f.
          let z = zeros P 38 2 f in
          n (eqb-true _ _ (not-false _ e), (z 38 (lit≤ tt) (lit< tt), z 39 (lit≤ tt) (lit< tt)))))

      two : Whole P → ¬ (IsModulus (modulus P)) → (b : Bool) → not (is_prime (modulus P)) ≡ b → check_number P ≡ 2
      two w n true e = sym (check-at P 2 (clear_whole w e))
      two w n false e =
          sym (check-at P 3 (clear_whole w (e & holds _ λ f. n (is_prime_lem _ (not-false _ e), ltb-false _ _ f))))

      five : Whole P → IsModulus (modulus P) → IsSide (modulus P) (rows P) → IsSide (modulus P) (columns P) →
          degree P < min (rows P) (columns P) → ¬ (PointsFrom P 6 (rows P) × PointsFrom P 22 (columns P)) → (b : Bool) →
          misplaced P 6 (rows P) ≡ b → check_number P ≡ 5
      five w m t u h n true e =
          sym (check-at P 7 (clear_whole w (clear-modulus m (clear_sides t u (lt-leb _ _ h & e)))))
      five w m t u h n false e = sym (check-at P 8 (clear_whole w (clear-modulus m (clear_sides t u
          (lt-leb _ _ h & e & holds _ (λ f. n (placed P 6 (rows P) t.most e, placed P 22 (columns P) u.most f)))))))

pub cells-most : (C : Code) {P : List ℕ} → Sound P → cells C P ≤ 256
cells-most strip S = omega (arith, S.tall.most)
cells-most oblong {P} S = mul-le-mul {n₁ = rows P} {m₁ = columns P} {n₂ = 16} {m₂ = 16} S.tall.most S.wide.most
