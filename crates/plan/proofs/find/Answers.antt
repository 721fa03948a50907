-- `plan::find` meets its contract: the part is the record that was located. Assumes nothing.
use mathlib.Core.Path.{refl, ap}
use native.Mathlib.Omega.{arith}
use Rattle.definitions.specs.Finder.{address_at}
use Rattle.definitions.proofs.Finder.{found_part}
use Rattle.plan.proofs.find.Goals as goal

pub overflow_add-result : goal.overflow_add-result
overflow_add-result c =
    let e = c.in_ok-at.ensures in
    omega (arith, (found_part _ _ e.number refl e.offset).0)

pub slice_bounds-result-end : goal.slice_bounds-result-end
slice_bounds-result-end c =
    let e = c.in_ok-at.ensures in
    omega (arith, (found_part _ _ e.number refl e.offset).0)

pub returns : goal.returns
returns c =
    let file = c.args.file in
    let e = c.in_ok-at.ensures in
    record {
      number = e.number;
      address = ap (address_at file) e.offset;
      bytes = (found_part _ _ e.number refl e.offset).1;
    }
