-- What columns leave of a mark.
--
--   without_subtracted   a row less a column's value times the power of Y is the row with that term subtracted
--   drawn_start          nothing is subtracted
--   drawn_next           one column more
--   remaining-more       what is left, measured against 0, one row more
--
-- What this file is for: columns are subtracted one by one, and what is left is measured row by row. Assumes nothing.
use mathlib.Core.Path.{◌≡◌, refl, ap, sym, ◌∙◌}
use mathlib.Core.List.{List}
use Prim.Native.Nat.{ℕ, suc, ◌+◌, ◌*◌, ◌-◌, ◌%◌, ◌^◌, ◌≤◌, ◌<◌}
use native.Mathlib.Omega.{arith}
use lib.ListN.{replicate, get_or-replicate}
use Rattle.bounded.specs.Bounded.{at}
use Rattle.bounded.proofs.Sum.{sum-eq, sum_more}
use Rattle.field.specs.Congruence.{Cong}
use Rattle.field.specs.Row.{row}
use Rattle.field.proofs.Congruence.{same, ~sym, ◌⨾◌, ~add, ~mul, ~mul-right, less}
use Rattle.field.proofs.Row.{result_row, result_cong}
use Rattle.distance.specs.Cost.{cell, cost}
use Rattle.polynomial.specs.Eval.{eval}
use Rattle.polynomial.specs.Powers.{Rows}
use Rattle.polynomial.specs.declared.Grid.{Grid}
use Rattle.grid.specs.Cost.{remaining}
use Rattle.grid.specs.Loops.{cell_at, line}
use Rattle.grid.specs.Drawn.{Lessened, Drawn, Without}
use Rattle.grid.proofs.Answers.{positive}
use Rattle.grid.proofs.Cost.{costs-start, costs-next}
use Rattle.grid.proofs.Rest.{rest-start, rest-next}

-- what was subtracted, added again
added-again : {p l' l v w e f : ℕ} → v ≤ p → 0 < p → Cong (p - 1) l' (l + (p - v) * w) → Cong (p - 1) v e → Cong (p - 1) w f →
    Cong (p - 1) (l' + e * f) l
added-again {p} {l'} {l} {v} {w} {e} {f} h pos c d g =
    ~add c (~sym (~mul-right w d ⨾ ~mul e g)) ⨾ less w (omega (arith, ap (λ t. t * w) back, ap (λ t. t * w) whole))
  where
    back : p - v + v ≡ p
    back = omega arith

    whole : suc (p - 1) ≡ p
    whole = omega arith

grid-modulus : (g : Grid) → suc (g.modulus.p - 1) ≡ g.modulus.p
grid-modulus g = omega (arith, positive g)

-- the column's value times the power of the column point is subtracted
module _ {g : Grid} (t : ℕ) (left left' : List (List ℕ)) (column : List ℕ) {z w : List ℕ} (sq : Rows g.modulus.p left)
    (values : z ≡ row λ j. eval (suc (g.d - t)) (at column) (at g.x j) % g.modulus.p)
    (power : w ≡ row λ c. at g.y c ^ t % g.modulus.p) (W : Without g left z w left') where
  pub without_subtracted : (r : ℕ) → r < g.a → Lessened g t column left left' r
  without_subtracted r l =
      let h : r < 16 = omega (arith, g.fit.rows) in record {
        before = λ c m. rw (grid-modulus g) ((sq.done r h).small c);
        after = λ c m. rw (grid-modulus g) ((W.rows.done r h).small c);
        term = λ c m.
            let k : c < 16 = omega (arith, g.fit.columns) in
            added-again (omega (arith, (result_row _ (positive g) values).small r)) (positive g)
            (result_cong _ (positive g) (W.each r l) c k) (result_cong _ (positive g) values r h)
            (result_cong _ (positive g) power c k);
      }

-- nothing is subtracted
pub drawn_start : {g : Grid} {s u columns : List (List ℕ)} → Rows g.modulus.p s → Rows g.modulus.p columns →
    Drawn g (suc g.d) s u s columns
drawn_start rows coefficients = record { rows = rows; coefficients = coefficients; costs = costs-start _ _; rest = rest-start _ }

-- one column more
pub drawn_next : {g : Grid} {t : ℕ} {s u left left' columns : List (List ℕ)} → t ≤ g.d → Drawn g (suc t) s u left columns →
    Rows g.modulus.p left' →
    ((r : ℕ) → r < g.a → Lessened g t (line columns t) left left' r) → Drawn g t s u left' columns
drawn_next {g} {t} {columns} td D rows sub = record {
  rows = rows;
  coefficients = D.coefficients;
  costs = costs-next value td D.costs sub (λ r l. same refl) (λ t' r l m i. same refl);
  rest = rest-next value td D.rest sub (λ r l. same refl) (λ t' r l m i. same refl);
}
  where
    value : ℕ → ℕ
    value r = eval (suc (g.d - t)) (at (line columns t)) (at g.x r)

-- a row more of what is left, against a row of zeros
pub remaining-more : (full r b : ℕ) (u left : List (List ℕ)) → b ≤ 16 →
    remaining full (r + 1) b (cell_at u) (cell_at left) ≡
    remaining full r b (cell_at u) (cell_at left) + cost full b (cell_at left r) (cell_at u r) (at (replicate 16 0))
remaining-more full r b u left h = sum_more r _ ∙ ap (λ n. remaining full r b (cell_at u) (cell_at left) + n)
    (sum-eq b λ c l. ap (cell full (cell_at left r c) (cell_at u r c)) (sym (get_or-replicate {A = ℕ} 16 c 0 0 (omega arith))))
