-- `sets::combining::cells` meets its contract: the cells before c are combined. Assumes nothing.
use mathlib.Core.Path.{◌≡◌, refl, ◌∙◌}
use Prim.Native.Nat.{◌<◌}
use native.Mathlib.Omega.{arith}
use lib.ListN.{length}
use Rattle.bounded.specs.Bounded.{tab}
use Rattle.bounded.proofs.Tab.{tab-more, tab-whole}
use borrow.Author.Rules.{rules}
use Rattle.sets.proofs.combining.cells.Goals as goal

pub loop-c-init : goal.loop-c-init
unfolding tab
loop-c-init c = (c.requires.2, refl, refl)

pub loop-c-preserved : goal.loop-c-preserved
loop-c-preserved c =
    let l = c.loop-c in
    let h : l.c < length c.args.symbols.now = omega arith in
    let k : l.c < length c.args.doubts.now = omega arith in (
      search rules,
      rw (c.combine-cell.ensures.0, c.column.ensures, l.invariant.1) (tab-more _ _ _ h),
      rw (c.combine-cell.ensures.1, c.column.ensures, l.invariant.2) (tab-more _ _ _ k),
    )

pub returns : goal.returns
returns c =
    let e : c.loop-c.c ≡ length c.args.symbols.now = omega arith in record {
      symbols = rw e at c.loop-c.invariant.1 ∙ tab-whole _ _ c.args.symbols.now refl;
      doubts = rw e at c.loop-c.invariant.2 ∙ tab-whole _ _ c.args.doubts.now c.requires.2;
    }
