-- A trial misses no polynomial.
--
--   axis-modulus        the prime of an axis as the successor that the laws of congruence want
--   usable_bits, usable-sum
--                       the row of usable cells: zeros and ones, and their number
--   holds-few           no more cells have entered than there are
--   cost-values         what a row of values costs is what its polynomial costs
--   refuted_low, refuted_count, refuted_suspect
--                       no near polynomial is under the radius where the first degree is low, where the usable cells are not as
--                       many as it, and where what the second pair tells costs the radius
--   enough-usable       the usable cells are enough to go through
--   tried_usable        a trial at k + 1 of them is a trial at all of them
--   enough_all          all cells of a strip have keys
--   refuted_rest, found-rest
--                       what a failed and what a successful measure of Newton's polynomial says
--
-- What this file is for: a near polynomial is the candidate, so where no candidate is under the radius, no near polynomial is.
-- Assumes nothing.
use mathlib.Core.Logic.{◌≢◌}
use mathlib.Core.Path.{◌≡◌, refl, sym, ap, ap₂, ◌∙◌}
use mathlib.Core.List.{List}
use mathlib.Core.Bool.{Bool, true, false, cond}
use Prim.Native.Nat.{ℕ, suc, ◌+◌, ◌*◌, ◌-◌, ◌%◌, ◌≤◌, ◌<◌}
use native.Mathlib.Omega.{arith}
use native.Mathlib.Decide.{dec_lt, ℕ_discrete}
use native.Mathlib.Nat.{mod-lt, mod-eq_of_lt, mul-zero}
use lib.Dec.{eqb, ltb}
use borrow.Author.Tests.{eq-eqb, ne_eqb, lt-ltb}
use lib.ListN.{length, replicate}
use Rattle.std.specs.Prelude.{Option}
use Rattle.bounded.specs.Bounded.{at, sum}
use Rattle.bounded.proofs.Sum.{sum-eq, sum-le, sum_const, sum-short}
use Rattle.bounded.proofs.Tab.{length-tab, tab-eq}
use Rattle.field.specs.Prime.{Prime}
use Rattle.field.specs.Row.{row}
use Rattle.field.proofs.Congruence.{same, ~sym, ◌⨾◌, remainder, below_eq, cancel, mod_cong, cong_mod}
use Rattle.field.proofs.Row.{row_at, beyond}
use Rattle.distance.specs.Cost.{cell, cost}
use Rattle.polynomial.specs.Eval.{eval}
use Rattle.polynomial.specs.Lead.{Lead}
use Rattle.polynomial.proofs.Eval.{eval_lead}
use Rattle.polynomial.proofs.Lead.{lead_eq}
use Rattle.welch_berlekamp.specs.Order.{taken, key}
use Rattle.welch_berlekamp.specs.declared.interpolation.Pairs.{Pairs}
use Rattle.welch_berlekamp.specs.declared.newton.Newton.{Newton}
use Rattle.welch_berlekamp.specs.Pairs.{Holds}
use Rattle.welch_berlekamp.specs.Newton.{Enough, Coefficients}
use Rattle.welch_berlekamp.proofs.Cursor.{zeros-at, key_in, key_out, keys-placed, marked_placed}
use Rattle.welch_berlekamp.proofs.State.{ones_at}
use Rattle.reed_solomon.specs.declared.axis.Axis.{Axis}
use Rattle.reed_solomon.specs.declared.decoder.Decoded.{Decoded}
use Rattle.reed_solomon.specs.Axis.{Valid, Received, word, spent, strip_radius, HoldsOn, FitsOn}
use Rattle.reed_solomon.specs.Near.{missed, Near, usable, suspect, Refuted}
use Rattle.reed_solomon.specs.Decoded.{Confirmed, Tried, hit, miss, Hoped}
use Rattle.reed_solomon.proofs.Near.{first-over, usable_all, usable_right, suspect_right, eqb_same}

pub axis-modulus : {g : Axis} → Valid g → suc (g.modulus.p - 1) ≡ g.modulus.p
axis-modulus v = omega (arith, v.prime.least)

usable-bit : (b : Bool) (w : ℕ) → w ≤ 1 → cond b 0 w ≤ 1
usable-bit true w l = omega arith
usable-bit false w l = l

usable-none : (b : Bool) {w : ℕ} → w ≡ 0 → cond b 0 w ≡ 0
usable-none true e = refl
usable-none false e = e

-- the row of usable cells, whatever has entered
module _ (w e : ℕ → ℕ) {v : List ℕ} (i : v ≡ row (usable w e)) where
  pub usable_bits : ((j : ℕ) → w j ≤ 1) → (j : ℕ) → at v j ≤ 1
  usable_bits h j = elim (dec_lt j 16) [
    | yes l ↦ rw (ap (λ l. at l j) i ∙ row_at (usable w e) j l) (usable-bit (eqb (e j) 0) (w j) (h j))
    | no l ↦ rw (beyond v j (omega (arith, ap length i, length-tab 16 (usable w e)))) (omega arith)
  ]

  pub usable-sum : sum 16 (at v) ≡ sum 16 (usable w e)
  usable-sum = sum-eq 16 λ j l. ap (λ l. at l j) i ∙ row_at (usable w e) j l

-- no more cells have entered than there are
pub holds-few : {p n k : ℕ} {x s : List ℕ} {t : Pairs} → Holds p n k x s t → t.first.degree + t.second.degree ≤ n
holds-few {n} H = omega (arith, H.state.count, sum_const n 1, sum-le n λ j _. H.state.bit j)

-- what a row of values costs
pub cost-values : {g : Axis} → Valid g → (s u w : List ℕ) {v : List ℕ} →
    v ≡ row (λ j. eval (suc g.k) (at w) (at g.x j) % g.modulus.p) → spent g s u (at v) ≡ spent g s u (word g (at w))
cost-values {g} valid s u w e = sum-eq g.n λ j l.
    ap (cell g.full (at s j) (at u j))
    (ap (λ t. at t j) e ∙ row_at (λ j. value j % g.modulus.p) j (omega (arith, valid.most))
    ∙ ap (λ t. value j % t) (sym (axis-modulus valid)))
  where
    value : ℕ → ℕ
    value j = eval (suc g.k) (at w) (at g.x j)

-- two words with the same cells right
cost_right : (full n : ℕ) (s u v s' v' : ℕ → ℕ) → ((j : ℕ) → j < n → eqb (s j) (v j) ≡ eqb (s' j) (v' j)) →
    cost full n s u v ≡ cost full n s' u v'
cost_right full n s u v s' v' h = sum-eq n λ j l. ap (λ b. cond b (u j) (2 * full - u j)) (h j l)

module _ {g : Axis} {s u : List ℕ} {t : Pairs} (R : Received g s u) (H : HoldsOn g s t) where
  abbrev free : ℕ → ℕ
  free = usable (at t.entered) (at t.second.e)

  prime : Prime (suc (g.modulus.p - 1))
  prime = rw (axis-modulus R.axis) R.axis.prime

  word_lead : (h : ℕ → ℕ) → Lead (g.modulus.p - 1) g.n (at g.x) g.k (h g.k) (word g h)
  word_lead h = lead_eq (same refl) (λ j _. remainder (eval (suc g.k) h (at g.x j))) (eval_lead g.k h)

  small : (h : ℕ → ℕ) (j : ℕ) → j < g.n → (at s j < suc (g.modulus.p - 1)) × (word g h j < suc (g.modulus.p - 1)) ×
      (at t.second.e j < suc (g.modulus.p - 1)) × (at t.second.d j < suc (g.modulus.p - 1))
  small h j _ =
      let e = axis-modulus R.axis in (
        rw e (R.symbols.small j),
        mod-lt (eval (suc g.k) h (at g.x j)) (omega arith),
        rw e (H.shaped.second.e.small j),
        rw e (H.shaped.second.d.small j),
      )

  pub refuted_low : t.first.degree ≤ t.second.degree + g.k → Refuted g s u t.entered
  refuted_low l = record {
    far = λ h near. absurd (omega (arith, first-over prime R.axis.apart H.state (word_lead h) (small h) near));
  }

  -- the second pair tells the cost
  refuted_cost : (v : List ℕ) → ((j : ℕ) → j < g.n → at v j ≡ suspect (at t.second.d) (at t.second.e) j) →
      strip_radius g ≤ spent g v u (at (replicate 16 0)) → Refuted g s u t.entered
  refuted_cost v e l = record {
    far = λ h near. omega (
      arith,
      cost_right g.full g.n (at v) (at u) (at (replicate 16 0)) (at s) (word g h) λ j o.
          ap₂ eqb (e j o) (zeros-at 16 j) ∙ suspect_right prime R.axis.apart H.state (word_lead h) (small h) near j o,
    );
  }

  pub refuted_suspect : {v : List ℕ} → v ≡ row (suspect (at t.second.d) (at t.second.e)) →
      strip_radius g ≤ spent g v u (at (replicate 16 0)) →
      Refuted g s u t.entered
  refuted_suspect {v} e l = refuted_cost v
      (λ j o. ap (λ t. at t j) e ∙ row_at (suspect (at t.second.d) (at t.second.e)) j (omega (arith, R.axis.most))) l

  free_count : sum 16 free ≡ sum g.n free
  free_count = sum-short g.n 16 free R.axis.most λ j l. usable-none (eqb (at t.second.e j) 0) (H.beyond j l)

  pub refuted_count : sum 16 free ≢ t.first.degree → Refuted g s u t.entered
  refuted_count d = record {
    far = λ h near. absurd (d (free_count ∙ usable_all prime R.axis.apart H.state (word_lead h) (small h) near));
  }

  -- v is the row of usable cells
  module _ {v : List ℕ} (e : v ≡ row free) where
    free_at : (j : ℕ) → at v j ≡ free j
    free_at j = elim (dec_lt j 16) [
      | yes l ↦ ap (λ l. at l j) e ∙ row_at free j l
      | no l ↦ beyond v j (omega (arith, ap length e, length-tab 16 free))
          ∙ sym (usable-none (eqb (at t.second.e j) 0) (H.beyond j (omega (arith, R.axis.most))))
    ]

    -- l are the keys of the usable cells
    module _ {a l : List ℕ} (K : a ≡ row (λ j. key g.n (at u j) j))
        (M : l ≡ row (λ j. cond (eqb (at v j) 0) taken (at a j))) where
      marked_at : (j : ℕ) → j < 16 → at l j ≡ cond (eqb (at v j) 0) taken (key g.n (at u j) j)
      marked_at j i =
          ap (λ t. at t j) M ∙ row_at (λ j. cond (eqb (at v j) 0) taken (at a j)) j i
          ∙ ap (cond (eqb (at v j) 0) taken) (ap (λ t. at t j) K ∙ row_at (λ j. key g.n (at u j) j) j i)

      -- by whether the cell is usable
      marked_free : (j : ℕ) → j < g.n → at v j ≢ 0 → at l j ≡ at u j * 16 + j
      marked_free j o z =
          marked_at j (omega (arith, R.axis.most))
          ∙ ap (λ b. cond b taken (key g.n (at u j) j)) (ne_eqb (at v j) 0 z) ∙ key_in g.n (at u j) j o

      marked_none : (j : ℕ) → j < g.n → at v j ≡ 0 → at l j ≡ taken
      marked_none j o z =
          marked_at j (omega (arith, R.axis.most)) ∙ ap (λ b. cond b taken (key g.n (at u j) j)) (eq-eqb (at v j) 0 z)

      pub enough-usable : Hoped g.k t → Enough g.modulus.p g.n g.k g.x l
      enough-usable h = record {
        most = R.axis.most;
        apart = R.axis.apart;
        placed = marked_placed (at v) (keys-placed g.n (at u) (λ j l. omega (arith, R.doubts j l, R.axis.full)) K) M;
        beyond = λ j o i. omega (
          arith,
          marked_at j i ∙ ap (cond (eqb (at v j) 0) taken) (key_out g.n (at u j) j o) ∙ either (eqb (at v j) 0),
        );
        enough = omega (
          arith,
          h.high,
          h.count,
          free_count,
          sum-eq g.n {f = at v} {g = free} (λ j _. free_at j),
          sum-le g.n {f = at v} {g = λ j. cond (ltb (at l j) taken) 1 0} keyed,
        );
      }
        where
          either : (b : Bool) → ◌≡◌ {A = ℕ} (cond b taken taken) taken
          either true = refl
          either false = refl

          keyed : (j : ℕ) → j < g.n → at v j ≤ cond (ltb (at l j) taken) 1 0
          keyed j o = elim (ℕ_discrete (at v j) 0) [
            | yes z ↦ omega arith
            | no z ↦ rw (lt-ltb (at l j) taken (omega (arith, marked_free j o z, R.doubts j o, R.axis.full, R.axis.most)))
                (usable_bits (at t.entered) (at t.second.e) e H.state.bit j)
          ]

      -- what is near goes through every usable cell, so it is near for the k + 1 of them that f goes through
      refuted_usable : {f : Newton} → FitsOn g s l f → Refuted g s u f.entered → Refuted g s u t.entered
      refuted_usable {f} fit D = record { far = λ h near. D.far h (omega (arith, none h near, fit.holds.state.count)) }
        where
          right : (h : ℕ → ℕ) → Near g.n g.k (at t.entered) (at s) (word g h) → (j : ℕ) → j < g.n →
              cond (eqb (at s j) (word g h j)) 0 (at f.entered j) ≡ 0
          right h near j o = elim (ℕ_discrete (at f.entered j) 0) [
            | yes z ↦ usable-none (eqb (at s j) (word g h j)) z
            | no z ↦ ap (λ b. cond b 0 (at f.entered j)) (eq-eqb (at s j) (word g h j)
                (usable_right prime R.axis.apart H.state (word_lead h) (small h) near j o λ e. marked z (free_at j ∙ e)))
          ]
            where
              marked : at f.entered j ≢ 0 → at v j ≢ 0
              marked z e = omega (arith, fit.entering.some j (omega (arith, R.axis.most)) z, marked_none j o e)

          none : (h : ℕ → ℕ) → Near g.n g.k (at t.entered) (at s) (word g h) →
              missed g.n (at f.entered) (at s) (word g h) ≡ 0
          none h near = sum-eq g.n (right h near) ∙ sum_const g.n 0 ∙ mul-zero g.n

      pub tried_usable : {f : Newton} {r : Option Decoded} → FitsOn g s l f → Tried g s u f.entered r →
          Tried g s u t.entered r
      tried_usable fit (hit D) = hit D
      tried_usable fit (miss D) = miss (refuted_usable fit D)

-- all cells have keys
pub enough_all : {g : Axis} {s u l : List ℕ} → Received g s u → l ≡ row (λ j. key g.n (at u j) j) →
    Enough g.modulus.p g.n g.k g.x l
enough_all {g} {u = u} {l = l} R K = record {
  most = R.axis.most;
  apart = R.axis.apart;
  placed = keys-placed g.n (at u) (λ j l. omega (arith, R.doubts j l, R.axis.full)) K;
  beyond = λ j o i. omega (arith, here j i ∙ key_out g.n (at u j) j o);
  enough = omega (
    arith,
    R.axis.low,
    sum_const g.n 1,
    sum-le g.n {f = λ j. 1} {g = λ j. cond (ltb (at l j) taken) 1 0} λ j o. rw (lt-ltb (at l j) taken (below j o))
        (omega arith),
  );
}
  where
    here : (j : ℕ) → j < 16 → at l j ≡ key g.n (at u j) j
    here j i = ap (λ t. at t j) K ∙ row_at (λ j. key g.n (at u j) j) j i

    below : (j : ℕ) → j < g.n → at l j < taken
    below j o =
        let i : j < 16 = omega (arith, R.axis.most) in
        omega (arith, here j i ∙ key_in g.n (at u j) j o, R.doubts j o, R.axis.full)

-- the polynomial f, measured by its rest
module _ {g : Axis} {s u l : List ℕ} {f : Newton} (R : Received g s u) (fit : FitsOn g s l f) where
  pub refuted_rest : strip_radius g ≤ spent g f.rest u (at (replicate 16 0)) → Refuted g s u f.entered
  refuted_rest h =
      refuted_cost R fit.holds f.rest (λ j o. sym (ap (λ b. cond b 1 (at f.rest j)) (ne_eqb _ _ λ e. one j o e))) h
    where
      one : (j : ℕ) → j < g.n → at (replicate 16 1) j ≡ 0 → ⊥
      one j o e = omega (arith, ones_at j (omega (arith, R.axis.most)))

  pub found-rest : {r : Decoded} → Coefficients g.modulus.p g.k f.slopes f.nodes r.message →
      r.values ≡ row (λ j. (at f.rest j + 1 * at s j) % g.modulus.p) → r.cost ≡ spent g f.rest u (at (replicate 16 0)) →
      r.cost < strip_radius g → Confirmed g s u r
  found-rest {r} C e c b = record {
    message = C.row;
    above = C.above;
    values = e ∙ tab-eq 16 λ j i. cong_mod pos (same (omega arith) ⨾ fit.formed j i ⨾ ~sym (C.evaluates (at g.x j)));
    measured = c ∙ cost_right g.full g.n (at f.rest) (at u) (at (replicate 16 0)) (at s) (at r.values) right;
    under = b;
  }
    where
      pos : 0 < g.modulus.p
      pos = omega (arith, R.axis.prime.least)

      value : (j : ℕ) → j < g.n → at r.values j ≡ (at f.rest j + 1 * at s j) % g.modulus.p
      value j o = ap (λ t. at t j) e ∙ row_at (λ j. (at f.rest j + 1 * at s j) % g.modulus.p) j (omega (arith, R.axis.most))

      right : (j : ℕ) → j < g.n → eqb (at f.rest j) (at (replicate 16 0) j) ≡ eqb (at s j) (at r.values j)
      right j o = eqb_same (at f.rest j) (at (replicate 16 0) j) (at s j) (at r.values j)
          (λ z. sym (value j o ∙ ap (λ t. (t + 1 * at s j) % g.modulus.p) (z ∙ zeros-at 16 j)
          ∙ ap (λ t. t % g.modulus.p) (omega arith) ∙ mod-eq_of_lt (R.symbols.small j)))
          (λ z. below_eq (rw (axis-modulus R.axis) (fit.whole.rest.small j))
          (rw (axis-modulus R.axis, zeros-at 16 j) pos)
          (cancel (same {a = at s j} refl) (same (omega arith) ⨾ ~sym (mod_cong pos (at f.rest j + 1 * at s j))
          ⨾ same {b = at (replicate 16 0) j + at s j} (omega (arith, value j o, z, zeros-at 16 j)))))
