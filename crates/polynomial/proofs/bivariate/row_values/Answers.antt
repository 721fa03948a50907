-- `polynomial::bivariate::row_values` meets its contract: the sums have as many terms at each column point as columns were taken.
-- Assumes nothing.
use mathlib.Core.Path.{◌≡◌, ap}
use mathlib.Core.List.{List, []}
use Prim.Native.Nat.{ℕ, suc, ◌+◌, ◌<◌}
use native.Mathlib.Omega.{arith}
use lib.ListN.{length}
use borrow.Author.Rules.{rules}
use Rattle.std.proofs.lemmas.List.{length-append}
use Rattle.bounded.specs.Bounded.{at}
use Rattle.field.proofs.Row.{result_row}
use Rattle.polynomial.specs.Powers.{Rows}
use Rattle.polynomial.proofs.Beside.{term_taken, terms_taken}
use Rattle.polynomial.proofs.Columns.{row-values_are}
use Rattle.polynomial.proofs.Powers.{terms_first, terms_more, terms_row, term_fits, terms_values}
use Rattle.polynomial.proofs.bivariate.row_values.Invariants.{coefficients}
use Rattle.polynomial.proofs.bivariate.row_values.Goals as goal

residues : {p : ℕ} {columns : List (List ℕ)} (r : ℕ) → Rows p columns → (t : ℕ) → t < 16 → coefficients columns r t < p
residues r R t l = (R.done t l).small r

pub loop-column-init : goal.loop-column-init
loop-column-init c =
    terms_first c.args.powers.now (coefficients c.args.columns.now c.args.r) c.from-sum.ensures

pub add_product-requires : goal.add_product-requires
add_product-requires c =
    let a = c.args in
    let (C, R, _, d) = c.requires in
    let l = c.loop-column in
    let t = term_taken a.d a.columns.now a.powers.now l.yielded c.into_iter-column-iterator.result l.column-iterator
    c.next.new.self c.next.result (search rules) (search rules) l.yielded_by c.next.ensures.steps
    (c.in-Some.column, c.in-Some.v) c.in-Some.is in
    let w = ap (λ x. at x a.r) (t.1 []) in
    term_fits a.modulus.reciprocal.most R (residues a.r C) (length l.yielded + 1) (omega arith) l.invariant w t.2

pub loop-column-preserved : goal.loop-column-preserved
loop-column-preserved c =
    let a = c.args in
    let l = c.loop-column in
    let t = term_taken a.d a.columns.now a.powers.now l.yielded c.into_iter-column-iterator.result l.column-iterator
    c.next.new.self c.next.result (search rules) (search rules) l.yielded_by c.next.ensures.steps
    (c.in-Some.column, c.in-Some.v) c.in-Some.is in
    let w = ap (λ x. at x a.r) (t.1 []) in
    simp length-append (terms_more a.powers.now (coefficients a.columns.now a.r) (length l.yielded + 1) (omega arith)
    l.invariant w t.2 c.add_product.ensures)

pub fold_row-requires : goal.fold_row-requires
fold_row-requires c =
    let a = c.args in
    let (C, R, _, d) = c.requires in
    let l = c.loop-column in
    let all = terms_taken a.d a.columns.now a.powers.now l.yielded c.into_iter-column-iterator.result l.column-iterator
    c.next.new.self c.next.result (search rules) (search rules) l.yielded_by c.next.ensures.steps c.in-None.is C.size R.size d in
    λ j k. (terms_row a.modulus.reciprocal.most R (residues a.r C) (length l.yielded + 1) (omega arith) l.invariant).small j

pub returns : goal.returns
returns c =
    let a = c.args in
    let (C, R, r, d) = c.requires in
    let l = c.loop-column in
    let all = terms_taken a.d a.columns.now a.powers.now l.yielded c.into_iter-column-iterator.result l.column-iterator
    c.next.new.self c.next.result (search rules) (search rules) l.yielded_by c.next.ensures.steps c.in-None.is C.size R.size d in
    let e : length l.yielded + 1 ≡ suc a.d = omega arith in
    let z : 0 < a.modulus.p = omega (arith, a.modulus.reciprocal.least) in
    let f = c.fold_row.ensures in (
      result_row _ z f,
      λ x y F C P. row-values_are a.columns.now x y F z r C
          (terms_values (coefficients a.columns.now a.r) y z P (rw e at l.invariant) f),
    )
