-- The laws of rows of sixteen numbers.
--
--   row_at                      place j of the row of f is f j
--   beyond                      a read beyond a list's end is 0
--   row_of                      sixteen numbers below p are a row
--   set-row                     a row with one place set is one
--   row_reduced, row_cong       remainders are a row, which stands for the numbers themselves
--   result_row, result_cong     the same of what a function on rows returns
--   upto_row, passed_done       the row that a loop has set
--   Making f l j                a loop makes the row of f in l, and has set the places below j
--   making_done                 all of them: l is the row of f
--   Filled f l j                the same in a row of zeros: the places from j on are 0
--   filled_row                  all of them where f is other than 0
--   filled_list                 all elements of a list, as f, which is 0 beyond them
--   row_from_fn                 the row that a closure makes place by place
--
-- What this file is for: a function on rows returns a row of remainders, which is read place by place. Assumes nothing.
use mathlib.Core.Path.{◌≡◌, refl, sym, ◌∙◌}
use mathlib.Core.List.{List, [], ◌∷◌}
use Prim.Native.Nat.{ℕ, zero, suc, ◌+◌, ◌-◌, ◌%◌, ◌≤◌, ◌<◌}
use native.Mathlib.Omega.{arith}
use native.Mathlib.Nat.{mod-lt}
use native.Mathlib.Decide.{ℕ_discrete, dec_lt}
use denote.Param.Members.{Mut, Called}
use lib.ListN.{length, set, length-set}
use lib.Seq.{get_or-set_same, get_or-set_other}
use Rattle.std.specs.Array.{IsFromFnResultFrom, IsFromFnResult}
use Rattle.bounded.specs.Bounded.{at}
use Rattle.bounded.proofs.Tab.{length-tab, tab-at, tab-is}
use Rattle.field.specs.Congruence.{Cong, Agree}
use Rattle.field.specs.Loop.{Upto, Passed}
use Rattle.field.specs.Row.{row, Row}
use Rattle.field.proofs.Congruence.{same, mod_cong, ◌⨾◌}
use Rattle.field.proofs.Loop.{upto_less, passed_rest}

pub row_at : (f : ℕ → ℕ) (j : ℕ) → j < 16 → at (row f) j ≡ f j
row_at f j l = tab-at 16 f j l

-- a read beyond the end
pub beyond : (l : List ℕ) (j : ℕ) → length l ≤ j → at l j ≡ 0
beyond [] j h = refl
beyond (x ∷ l) zero h = absurd (omega arith)
beyond (x ∷ l) (suc j) h = beyond l j (omega arith)

-- sixteen numbers below p are a row
pub row_of : {p : ℕ} {l : List ℕ} → 0 < p → length l ≡ 16 → ((j : ℕ) → j < 16 → at l j < p) → Row p l
row_of {p} {l} z e h = record {
  size = e;
  small = λ j. elim (dec_lt j 16) [ yes k ↦ h j k | no k ↦ rw (beyond l j (omega arith)) z ];
}

-- a row with one place set
pub set-row : {p : ℕ} {l : List ℕ} (i v : ℕ) → i < 16 → v < p → Row p l → Row p (set l i v)
set-row {p} {l} i v b s R = record {
  size = length-set l i v ∙ R.size;
  small = λ j. elim (ℕ_discrete j i) [
    | yes e ↦ rw (e, get_or-set_same l i v 0 (omega (arith, R.size))) s
    | no e ↦ rw (get_or-set_other l i j v 0 e) (R.small j)
  ];
}

-- remainders are a row
pub row_reduced : {p : ℕ} (f : ℕ → ℕ) → 0 < p → Row p (row λ j. f j % p)
row_reduced {p} f z = row_of z (length-tab 16 _) λ j k. rw (row_at (λ j. f j % p) j k) (mod-lt (f j) z)

-- which stands for the numbers themselves
pub row_cong : {p : ℕ} (f : ℕ → ℕ) → 0 < p → (j : ℕ) → j < 16 → Cong (p - 1) (at (row λ j. f j % p) j) (f j)
row_cong {p} f z j k = same (row_at (λ j. f j % p) j k) ⨾ mod_cong z (f j)

-- the same of what a function on rows returns; a call's `_` for f is found from the equation
module _ {p : ℕ} {l : List ℕ} (f : ℕ → ℕ) (z : 0 < p) (e : l ≡ row λ j. f j % p) where
  pub result_row : Row p l
  result_row = rw e (row_reduced f z)

  pub result_cong : Agree (p - 1) 16 (at l) f
  result_cong j k = rw e (row_cong f z j k)

-- the row that a loop has set
pub upto_row : {f : ℕ → ℕ} {l : List ℕ} → Upto 16 0 (λ j v. v ≡ f j) l 16 → l ≡ row f
upto_row {f} {l} h = tab-is 16 f l h.size h.done

pub passed_done : {U : ℕ → ℕ → Type 0} {f : ℕ → ℕ} {l : List ℕ} {j : ℕ} → 16 ≤ j → Passed 16 0 U (λ k v. v ≡ f k) l j → l ≡ row f
passed_done {f = f} {l} h p = tab-is 16 f l p.size λ k i. p.done k (omega arith)

-- a loop that makes the row of f: the places below j are set, by `upto_step`
abbrev pub Making : (f : ℕ → ℕ) (l : List ℕ) (j : ℕ) → Type 0
Making f l j = Upto 16 0 (λ k v. v ≡ f k) l j

module _ {f : ℕ → ℕ} {l : List ℕ} where
  pub making_done : {j : ℕ} → 16 ≤ j → Making f l j → l ≡ row f
  making_done h m = upto_row (upto_less h m)

-- a loop that fills a row of zeros with f: the places below j are set, by `passed_step`
abbrev pub Filled : (f : ℕ → ℕ) (l : List ℕ) (j : ℕ) → Type 0
Filled f l j = Passed 16 0 (λ k v. v ≡ 0) (λ k v. v ≡ f k) l j

module _ {f : ℕ → ℕ} where
  pub filled_row : {l : List ℕ} {j : ℕ} → ((k : ℕ) → j ≤ k → f k ≡ 0) → Filled f l j → l ≡ row f
  filled_row h p = upto_row (passed_rest p λ k m. sym (h k m))

-- the same of a list, which reads as 0 beyond its end
pub filled_list : (bytes : List ℕ) {l : List ℕ} {j : ℕ} → length bytes ≤ j → Filled (at bytes) l j → l ≡ row (at bytes)
filled_list bytes h = filled_row λ k m. beyond bytes k (omega arith)

-- a row made place by place by a closure that gives h j at the place j, and leaves itself as it was
module _ {F : Type 0} {m : Mut F (ℕ × Unit {0}) ℕ} (h : ℕ → ℕ) {f : F}
    (k : (j v : ℕ) (g : F) → j < 16 → Called m f (j, tt) v g → (g ≡ f) × (v ≡ h j)) where
  from_place : (l : List ℕ) (n i : ℕ) → i + n ≡ 16 → IsFromFnResultFrom m f l i n → (j : ℕ) → i ≤ j → j < 16 → at l j ≡ h j
  from_place l zero i e R j a b = absurd (omega arith)
  from_place l (suc n) i e (g, v, E, C, R) j a b =
      let t = k i v g (omega arith) C in
      elim (ℕ_discrete j i) [
        | yes d ↦ rw d (E.1 0 ∙ t.1)
        | no d ↦ from_place l n (i + 1) (omega arith) (rw t.0 at R) j (omega arith) b
      ]

  pub row_from_fn : {l : List ℕ} → IsFromFnResult m f l 16 → l ≡ row h
  row_from_fn {l} r = tab-is 16 h l r.long λ j b. from_place l 16 0 (omega arith) r.each j (omega arith) b
