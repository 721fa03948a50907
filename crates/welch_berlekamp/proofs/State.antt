-- The decoder's state by rows of remainders.
--
--   minus                           adding p - a is subtracting a
--   ratio_is                        a quotient by the table of inverses
--   reduced, plus, times            what the rows of remainders stand for: the numbers, a mixed row, a shifted one
--   ones_at, zeros-row, ones_row    rows of ones and of zeros
--   entered_of                      the marks with that of a cell set
--   first_kept, second_kept         the first pair is 0 at the cell, or the second, and the other one is multiplied
--   first_used, second_used         the first pair is used, or the second
--
-- What this file is for: the contract of `enter` from those of the functions on rows. Assumes nothing.
use mathlib.Core.Path.{◌≡◌, refl, ap, ◌∙◌}
use mathlib.Core.List.{List}
use Prim.Native.Nat.{ℕ, suc, ◌+◌, ◌*◌, ◌-◌, ◌%◌, ◌≤◌, ◌<◌}
use native.Mathlib.Omega.{arith}
use native.Mathlib.Numerals.{add-one}
use lib.ListN.{length, set, length-set, replicate, get_or-replicate}
use lib.Seq.{get_or-set_same, get_or-set_other}
use Rattle.bounded.specs.Bounded.{at}
use Rattle.field.specs.Congruence.{Cong, Agree}
use Rattle.field.specs.Prime.{Inverse}
use Rattle.field.specs.Row.{row, Row}
use Rattle.field.proofs.Congruence.{same, ~sym, ◌⨾◌, ~add, ~mul, ~mul-right, less, mod_cong}
use Rattle.field.proofs.Row.{row_of, result_row, result_cong}
use Rattle.welch_berlekamp.specs.Interpolation.{Entered}
use Rattle.welch_berlekamp.specs.declared.interpolation.Pair.{Pair}
use Rattle.welch_berlekamp.specs.declared.interpolation.Pairs.{Pairs}
use Rattle.welch_berlekamp.specs.Pairs.{Ratio, Formed, Shaped, State, Times, Plus, Multiplied, Freed, Lifts, kept, freed, Enters}
use Rattle.welch_berlekamp.proofs.Cursor.{zeros-at}
use Rattle.welch_berlekamp.proofs.Degrees.{shifted, mixed}
use Rattle.welch_berlekamp.proofs.Entry.{kept1, kept2, freed1, freed2}

-- p - a stands for minus a
pub minus : {q : ℕ} (m a b : ℕ) → m + a ≡ suc q → Cong q (b + m) (b + q * a)
minus m a b e = record { k = a; l = 1; eq = omega arith }

pub ratio_is : {p b i : ℕ} (m a r : ℕ) → m + a ≡ p → 0 < p → Inverse p b i → (r ≡ m * i % p) → r < p → Ratio p a b r
ratio_is {p} {b} {i} m a r e z h s l = record {
  below = l;
  zero = ~add (same {a = a} refl)
      (same (ap (λ t. t * b) s) ⨾ ~mul-right b (mod_cong z (m * i)) ⨾ same {b = m * (i * b)} (omega arith)
      ⨾ ~mul m (~sym (mod_cong z (i * b)) ⨾ same h.one))
      ⨾ less 1 (omega arith);
}

module _ {p n : ℕ} (z : 0 < p) (b : n ≤ 16) where
  pub reduced : (f : ℕ → ℕ) {l : List ℕ} → l ≡ row (λ j. f j % p) → Agree (p - 1) n (at l) f
  reduced f e j l = result_cong f z e j (omega arith)

  pub plus : (c : ℕ) (f g : List ℕ) {h : List ℕ} → Plus p c f g h → Agree (p - 1) n (at h) (mixed c (at f) (at g))
  plus c f g e = reduced (mixed c (at f) (at g)) e

  -- w are the differences to the point r
  pub times : (r : ℕ) (x : List ℕ) {w : List ℕ} → at x r ≤ p → w ≡ row (λ j. (at x j + (p - at x r)) % p) →
      (f : List ℕ) {g : List ℕ} → Times p w f g → Agree (p - 1) n (at g) (shifted (p - 1) (at x) r (at f))
  times r x {w} i d f e j l =
      reduced (λ j. at f j * at w j) e j l
      ⨾ ~mul (at f j) (reduced (λ j. at x j + (p - at x r)) d j l ⨾ minus (p - at x r) (at x r) (at x j) (omega arith))
      ⨾ same (omega arith)

pub ones_at : (j : ℕ) → j < 16 → at (replicate 16 1) j ≡ 1
ones_at j l = get_or-replicate {A = ℕ} 16 j 1 0 l

pub zeros-row : {p : ℕ} → 0 < p → Row p (replicate 16 0)
zeros-row {p} z = record { size = refl; small = λ j. rw (zeros-at 16 j) z }

pub ones_row : {p : ℕ} → 1 < p → Row p (replicate 16 1)
ones_row l = row_of (omega arith) refl λ j k. rw (ones_at j k) l

-- the marks after an entry
pub entered_of : (w : List ℕ) {w' : List ℕ} (r : ℕ) → w' ≡ set w r 1 → length w ≡ 16 → r < 16 → at w r ≡ 0 →
    Entered r (at w) (at w')
entered_of w r e s l m = record {
  before = m;
  after = ap (λ w. at w r) e ∙ get_or-set_same w r 1 0 (omega arith);
  others = λ j n. ap (λ w. at w j) e ∙ get_or-set_other w r j 1 0 n;
}

-- the pairs after a step
multiplied_formed : {p : ℕ} {w : List ℕ} {f g : Pair} → 0 < p → Multiplied p w f g → Formed p g
multiplied_formed z M = record { d = result_row _ z M.d; e = result_row _ z M.e }

freed_formed : {p c : ℕ} {f g h : Pair} → 0 < p → Freed p c f g h → Formed p h
freed_formed z F = record { d = result_row _ z F.d; e = result_row _ z F.e }

-- what is to be shown of the state after an entry
enters_of : {p k r : ℕ} {x : List ℕ} {t t' : Pairs} → length t.entered ≡ 16 → t'.entered ≡ set t.entered r 1 →
    Formed p t'.first → Formed p t'.second → ((n : ℕ) (y : List ℕ) → n ≤ 16 → r < n →
    Entered r (at t.entered) (at t'.entered) → State p n k x y t → State p n k x y t') → Enters p k x r t t'
enters_of {r} {t} h e first second v = record {
  marks = e;
  holds = λ n y b l m H. record {
    shaped = record { first = first; second = second; size = ap length e ∙ length-set t.entered r 1 ∙ h };
    beyond = λ j o. ap (λ w. at w j) e ∙ get_or-set_other t.entered r j 1 0 (omega arith) ∙ H.beyond j o;
    state = v n y b l (entered_of t.entered r e h (omega arith) m) H.state;
  };
}

-- the two ways to use the pairs
module _ {p k r : ℕ} {x w : List ℕ} {t : Pairs} (z : 0 < p) (i : at x r ≤ p) (d : w ≡ row (λ j. (at x j + (p - at x r)) % p))
    (h : Shaped p t) where
  pub first_kept : {g : Pair} → at t.first.d r ≡ 0 → Multiplied p w t.second g →
      Enters p k x r t (record { first = t.first; second = g; entered = set t.entered r 1 })
  first_kept o M = enters_of h.size refl h.first (multiplied_formed z M) λ n y b l m v.
      rw (M.degree, add-one t.second.degree) (kept1 v m l (same o) (times z b r x i d t.second.d M.d)
      (times z b r x i d t.second.e M.e))

  pub second_kept : {g : Pair} → at t.second.d r ≡ 0 → Multiplied p w t.first g →
      Enters p k x r t (record { first = g; second = t.second; entered = set t.entered r 1 })
  second_kept o M = enters_of h.size refl (multiplied_formed z M) h.second λ n y b l m v.
      rw (M.degree, add-one t.first.degree) (kept2 v m l (same o) (times z b r x i d t.first.d M.d)
      (times z b r x i d t.first.e M.e))

  module _ {f g : Pair} where
    pub first_used : t.first.degree ≤ t.second.degree + k → Lifts p w r t.first t.second f g →
        Enters p k x r t (record { first = f; second = g; entered = set t.entered r 1 })
    first_used low (kept o e M) = rw e (first_kept o M)
    first_used low (freed c R M F) = enters_of h.size refl (multiplied_formed z M) (freed_formed z F) λ n y b l m v.
        rw (M.degree, F.degree, add-one t.first.degree) (freed1 v m l c low R.zero (times z b r x i d t.first.d M.d)
        (times z b r x i d t.first.e M.e) (plus z b c t.second.d t.first.d F.d) (plus z b c t.second.e t.first.e F.e))

    pub second_used : t.second.degree + k < t.first.degree → Lifts p w r t.second t.first f g →
        Enters p k x r t (record { first = g; second = f; entered = set t.entered r 1 })
    second_used high (kept o e M) = rw e (second_kept o M)
    second_used high (freed c R M F) = enters_of h.size refl (freed_formed z F) (multiplied_formed z M) λ n y b l m v.
        rw (M.degree, F.degree, add-one t.second.degree) (freed2 v m l c high R.zero (times z b r x i d t.second.d M.d)
        (times z b r x i d t.second.e M.e) (plus z b c t.first.d t.second.d F.d) (plus z b c t.first.e t.second.e F.e))
