-- `plan::parse` meets its contract: each field is what the plan's bytes say, and the points are sixteen of them each way. Assumes
-- nothing.
use mathlib.Core.Path.{◌≡◌, sym, ap, subst, ◌∙◌}
use mathlib.Core.List.{List}
use Prim.Native.Nat.{ℕ}
use native.Mathlib.Omega.{arith}
use Rattle.bounded.specs.Bounded.{at}
use Rattle.field.specs.Row.{row}
use Rattle.definitions.specs.Plan.{modulus, row_point, column_point}
use Rattle.definitions.specs.Cost.{full_in, full}
use Rattle.definitions.specs.Sound.{Sound}
use Rattle.plan.proofs.Said.{points_loaded, fits, bytes_are}
use Rattle.plan.proofs.parse.Goals as goal
use Rattle.plan.proofs.parse.Goals.{After-full_doubt}

-- the numbers of the plan, as they are loaded
module _ (c : After-full_doubt) where
  abbrev P : List ℕ
  P = c.args.plan.now

  p_is : c.new.result.p ≡ modulus P
  p_is = c.new.ensures ∙ c.from-p.ensures

  x_is : c.row.result ≡ row (row_point P)
  x_is = points_loaded 6 P c.row.ensures

  y_is : c.row-2.result ≡ row (column_point P)
  y_is = points_loaded 22 P c.row-2.ensures

  full_is : c.full_doubt.result ≡ full P
  unfolding full
  full_is = c.full_doubt.ensures ∙ ap full_in c.pair-season.ensures

pub invariant_of-grid : goal.invariant_of-grid
invariant_of-grid c = record {
  fit = fits c.requires (p_is c) (x_is c) c.from.ensures (y_is c) c.from-2.ensures c.from-3.ensures (full_is c);
}

pub invariant_of-result : goal.invariant_of-result
invariant_of-result c =
    let e = (goal.at.invariant_of-result c).After-full_doubt in record {
      sound = subst Sound (sym (bytes_are c.requires (c.type_inv.plan 1).fits _ c.pair-season.ensures (p_is e) c.from.ensures
          c.from-2.ensures c.from-3.ensures (x_is e) (y_is e))) c.requires;
      scale = c.full_doubt.ensures;
    }

pub returns : goal.returns
returns c =
    let e = (goal.at.returns c).After-full_doubt in
    bytes_are c.requires (c.type_inv.plan 1).fits _ c.pair-season.ensures (p_is e) c.from.ensures c.from-2.ensures
    c.from-3.ensures (x_is e) (y_is e)
