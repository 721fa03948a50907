-- A record with X put in, and then Y.
--
--   coefficients-row   the coefficients of a power of Y are residues
--   column-values      and have that power's column as their values
--   row-values_are     place r of the columns has the values of row r
--
-- What this file is for: the contracts of `columns` and `row_values`. Assumes nothing.
use mathlib.Core.Path.{◌≡◌, refl, sym, ap, ◌∙◌}
use mathlib.Core.Bool.{Bool, true, false, cond}
use mathlib.Core.List.{List, []}
use Prim.Native.Nat.{ℕ, suc, ◌+◌, ◌*◌, ◌-◌, ◌%◌, ◌^◌, ◌≤◌, ◌<◌}
use native.Mathlib.Omega.{arith}
use lib.Dec.{leb}
use lib.ListN.{get_or}
use borrow.Author.Tests.{le-leb, leb-true}
use Rattle.bounded.specs.Bounded.{at}
use Rattle.bounded.proofs.Sum.{sum-eq}
use Rattle.bounded.proofs.Tab.{length-tab, tab-eq}
use Rattle.field.specs.Row.{row, Row}
use Rattle.field.proofs.Congruence.{cong_mod}
use Rattle.field.proofs.Row.{row_at, row_of, result_cong}
use Rattle.polynomial.specs.Record.{start, place, coef, column, value_xy}
use Rattle.field.specs.Word.{Word}
use Rattle.polynomial.specs.Eval.{eval}
use Rattle.polynomial.specs.Powers.{Columns}
use Rattle.polynomial.proofs.Eval.{eval_cong}
use Rattle.polynomial.proofs.Record.{place-below, value-rows}

-- the coefficients w of Y^t
module _ {p : ℕ} (d t : ℕ) (F : List ℕ) {w : List ℕ} (z : 0 < p) (h : d < 16) (m : t ≤ d)
    (e : w ≡ row λ i. cond (leb (i + t) d) (coef F i t) 0) where
  pub coefficients-row : Word p (start (suc d)) F → Row p w
  coefficients-row u = rw e (row_of z (length-tab 16 _) λ k l.
      rw (row_at (λ i. cond (leb (i + t) d) (coef F i t) 0) k l) (residue k (leb (k + t) d) refl))
    where
      residue : (k : ℕ) (b : Bool) → leb (k + t) d ≡ b → cond b (coef F k t) 0 < p
      residue k true e =
          let l : k + t ≤ d = leb-true _ _ e in
          u.below (place k t) (place-below k t (suc d) (omega arith))
      residue k false e = z

  pub column-values : (x : List ℕ) {l : List ℕ} → l ≡ row (λ j. eval (suc (d - t)) (at w) (at x j) % p) →
      l ≡ row (λ r. column d (coef F) t (at x r) % p)
  column-values x f = f ∙ tab-eq 16 λ j k.
      ap (λ v. v % p) (sum-eq (suc (d - t)) λ i l. ap (λ v. v * at x j ^ i) (each i (omega arith)))
    where
      each : (i : ℕ) → i + t ≤ d → at w i ≡ coef F i t
      each i l = let k : i < 16 = omega arith in rw (e, row_at (λ i. cond (leb (i + t) d) (coef F i t) 0) i k, le-leb _ _ l)

-- the polynomial in Y whose coefficients are place r of the columns has the values of row r
pub row-values_are : {p d r : ℕ} (columns : List (List ℕ)) (x y F : List ℕ) {v : List ℕ} → 0 < p →
    r < 16 → Columns p d x F columns →
    v ≡ row (λ j. eval (suc d) (λ t. at (get_or columns t []) r) (at y j) % p) → v ≡ row (λ j. value_xy p d F (at x r) (at y j))
row-values_are {p} {d} {r} columns x y F z h C f = f ∙ tab-eq 16 λ j k.
    cong_mod z (eval_cong (suc d) (at y j) λ t m. result_cong _ z (C.done t m) r h) ∙ sym (value-rows p d F (at x r) (at y j))
