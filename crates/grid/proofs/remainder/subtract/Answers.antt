-- `grid::remainder::subtract` meets its contract: from the rows before r the multiple is subtracted, the others are as
-- they were. Assumes nothing.
use mathlib.Core.Path.{◌≡◌, refl, sym, ◌∙◌}
use mathlib.Core.List.{List}
use Prim.Native.Nat.{ℕ, suc, ◌+◌, ◌*◌, ◌-◌, ◌%◌, ◌<◌}
use native.Mathlib.Omega.{arith}
use native.Mathlib.Nat.{mod-eq_of_lt}
use Rattle.bounded.specs.Bounded.{at}
use Rattle.bounded.proofs.Tab.{tab-is}
use Rattle.field.specs.Row.{row, Row}
use Rattle.field.proofs.Congruence.{cong_mod, less}
use Rattle.field.proofs.Loop.{upto_put, passed_step, passed_over}
use Rattle.field.proofs.Row.{result_row}
use Rattle.grid.proofs.Answers.{positive}
use Rattle.grid.proofs.remainder.subtract.Goals as goal
use Rattle.grid.proofs.remainder.subtract.Goals.{then-v-r-ne0, else-v-r-ne0}

-- a multiple of 0 leaves the row as it is
unchanged : {p z : ℕ} {l : List ℕ} (w : List ℕ) → Row p l → 0 < p → z ≡ 0 → l ≡ row (λ c. (at l c + (p - z) * at w c) % p)
unchanged {p} {z} {l} w R b e = tab-is 16 _ l R.size λ c _.
    sym (cong_mod b (less (at w c) (whole (at l c) (at w c))) ∙ mod-eq_of_lt (R.small c))
  where
    whole : (n v : ℕ) → n + (p - z) * v ≡ n + suc (p - 1) * v
    whole n v = let q : p - z ≡ suc (p - 1) = omega arith in rw q refl

pub loop-r-preserved : goal.loop-r-preserved
loop-r-preserved c =
    let g = c.args.g in
    let (sq, _, _) = c.requires in
    let (rows, passed) = c.loop-r.invariant in
    let h : c.loop-r.r < 16 = omega (arith, g.fit.rows) in
    let old = passed.todo _ (omega arith) c.loop-r-test.true in
    elim c.if-v-r-ne0.branch [
      | then-v-r-ne0 w ↦ let row = result_row _ (positive g) w.add_multiple.ensures in
          rw w.left-is (upto_put _ h row rows, passed_step _ h (rw old at w.add_multiple.ensures) passed)
      | else-v-r-ne0 w ↦ let is = unchanged c.args.power (sq.done _ h) (positive g) w.if-v-r-ne0.false in
          rw w.left-is (rows, passed_over (rw old is) passed)
    ]
