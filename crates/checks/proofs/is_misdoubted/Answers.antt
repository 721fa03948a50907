-- `checks::is_misdoubted` meets its contract: what is found is whether one of the cells so far is such. Assumes nothing.
use mathlib.Core.Path.{◌≡◌, sym}
use native.Mathlib.Omega.{arith}
use lib.ListN.{length, length-append}
use borrow.Author.Rules.{rules}
use Rattle.std.proofs.lemmas.Slice.Zip.{zip_turn, zip_end}
use Rattle.bounded.proofs.Any.{any-start, any_next}
use Rattle.checks.proofs.is_misdoubted.Goals as goal

pub loop-symbol-init : goal.loop-symbol-init
loop-symbol-init c = sym (any-start _)

pub loop-symbol-preserved : goal.loop-symbol-preserved
loop-symbol-preserved c =
    let s = c.args in
    let xs = c.loop-symbol.yielded in
    let t = zip_turn s.symbols.now s.doubts.now xs c.into_iter-symbol-iterator.result _ c.next.new.self _
    (search rules) (search rules) c.loop-symbol.yielded_by _ c.in-Some.is c.next.ensures.steps in
    rw (length-append xs _)
    (any_next _ _ c.loop-symbol.invariant (rw (t.2 0, t.3 0) at c.is_misdoubted_cell-found.ensures))

pub returns : goal.returns
returns c =
    let s = c.args in
    let e = zip_end s.symbols.now s.doubts.now c.loop-symbol.yielded c.into_iter-symbol-iterator.result _ c.next.new.self _
    (search rules) (search rules) c.loop-symbol.yielded_by c.in-None.is c.next.ensures.steps in
    let all : length c.loop-symbol.yielded ≡ length s.symbols.now = omega (arith, e) in
    rw all at c.loop-symbol.invariant
