-- The tests of a plan P, asked of its parts.
--
--   spare-reached   bytes 38 and 39
--   wrong_pair      byte i of the sixteen from byte a on, by its own value and that of the byte after it
--   pairs_tell      one is wrong so exactly where a point is misplaced
--
-- What this file is for: what a function answered of parts of the plan is the answer to the definition's test. Assumes nothing.
use mathlib.Core.Path.{◌≡◌, refl, sym, ◌∙◌}
use mathlib.Core.Bool.{Bool, true, false, not, cond, ◌&&◌, ◌||◌, true≢false}
use mathlib.Core.List.{List}
use Prim.Native.Nat.{ℕ, ◌+◌, ◌-◌, ◌≤◌, ◌<◌}
use native.Mathlib.Omega.{arith}
use native.Mathlib.Decide.{dec_lt}
use lib.Dec.{eqb, leb, ltb}
use lib.ListN.{length, take, drop}
use borrow.Author.Tests.{eqb-true, not-false, leb-false, lt-leb, lt-ltb, le-ltb}
use Rattle.bounded.specs.Bounded.{at, any}
use Rattle.bounded.proofs.Any.{any_none, none_any}
use Rattle.bounded.proofs.Parts.{neither, nor}
use Rattle.bounded.proofs.Part.{part_any}
use Rattle.field.specs.Word.{reached}
use Rattle.definitions.specs.Plan.{plan_bytes, modulus, filled, misplaced}
use Rattle.definitions.specs.Sound.{PointsFrom}
use Rattle.definitions.proofs.Sound.{placed, in_place}

pub spare-reached : (P : List ℕ) {r : Bool} → not (eqb (length P) plan_bytes) ≡ false →
    r ≡ reached 1 (take (40 - 38) (drop 38 P)) → filled P 38 2 ≡ r
spare-reached P w e =
    let whole : length P ≡ plan_bytes = eqb-true _ _ (not-false _ w) in
    sym (e ∙ part_any 38 2 P (leb 1) (omega arith))

-- byte i of the sixteen from byte a on is not below its limit, or the next one is a point too and not above it
abbrev pub wrong_pair : List ℕ → (a n i : ℕ) → Bool
wrong_pair P a n i =
    leb (cond (ltb i n) (modulus P) 1) (at P (a + i)) || (ltb (i + 1) n && leb (at P (a + (i + 1))) (at P (a + i)))

module _ (P : List ℕ) (a n : ℕ) where
  pairs-placed : any 16 (wrong_pair P a n) ≡ false → n ≤ 16 → PointsFrom P a n
  pairs-placed e h = record {
    below = λ i l. leb-false _ _ (rw (lt-ltb i n l) at (pair i (omega arith)).0);
    rising = λ i l. leb-false _ _ (rw (lt-ltb (i + 1) n l) at (pair i (omega arith)).1);
    unused = λ i l m. let z : at P (a + i) < 1 = leb-false _ _ (rw (le-ltb i n l) at (pair i m).0) in omega arith;
  }
    where
      pair : (i : ℕ) → i < 16 → (leb (cond (ltb i n) (modulus P) 1) (at P (a + i)) ≡ false)
          × ((ltb (i + 1) n && leb (at P (a + (i + 1))) (at P (a + i))) ≡ false)
      pair i l = neither _ _ (any_none 16 (wrong_pair P a n) e i l)

  placed-pairs : PointsFrom P a n → any 16 (wrong_pair P a n) ≡ false
  placed-pairs F = none_any 16 (wrong_pair P a n) λ i l. nor (below i l) (rising i)
    where
      below : (i : ℕ) → i < 16 → leb (cond (ltb i n) (modulus P) 1) (at P (a + i)) ≡ false
      below i l = elim (dec_lt i n) [
        | yes m ↦ rw (lt-ltb i n m) (lt-leb _ _ (F.below i m))
        | no m ↦ let k : n ≤ i = omega arith in rw (le-ltb i n k, F.unused i k l)
      ]

      rising : (i : ℕ) → (ltb (i + 1) n && leb (at P (a + (i + 1))) (at P (a + i))) ≡ false
      rising i = elim (dec_lt (i + 1) n) [
        | yes m ↦ rw (lt-ltb (i + 1) n m) (lt-leb _ _ (F.rising i m))
        | no m ↦ let k : n ≤ i + 1 = omega arith in rw (le-ltb (i + 1) n k)
      ]

  pub pairs_tell : n ≤ 16 → any 16 (wrong_pair P a n) ≡ misplaced P a n
  pairs_tell h = go (any 16 (wrong_pair P a n)) (misplaced P a n) refl refl
    where
      go : (v w : Bool) → any 16 (wrong_pair P a n) ≡ v → misplaced P a n ≡ w → any 16 (wrong_pair P a n) ≡ misplaced P a n
      go true true e f = e ∙ sym f
      go false false e f = e ∙ sym f
      go true false e f = absurd (true≢false (sym e ∙ placed-pairs (placed P a n h f)))
      go false true e f = absurd (true≢false (sym f ∙ in_place P a n (pairs-placed e h)))
