-- `polynomial::evaluation::values` meets its contract: the sums have as many terms at each point as coefficients were taken.
-- Assumes nothing.
use mathlib.Core.Path.{◌≡◌}
use Prim.Native.Nat.{suc, ◌+◌, ◌<◌}
use native.Mathlib.Omega.{arith}
use lib.ListN.{length}
use borrow.Author.Rules.{rules}
use Rattle.std.proofs.lemmas.List.{length-append}
use Rattle.bounded.specs.Bounded.{at}
use Rattle.field.proofs.Row.{result_row}
use Rattle.polynomial.proofs.Beside.{term_taken, terms_taken}
use Rattle.polynomial.proofs.Powers.{terms_first, terms_more, terms_row, term_fits, terms_values}
use Rattle.polynomial.proofs.evaluation.values.Goals as goal

pub loop-c-init : goal.loop-c-init
loop-c-init c = terms_first c.args.powers.now (at c.args.w) c.from-sum.ensures

pub add_product-requires : goal.add_product-requires
add_product-requires c =
    let (R, W, _) = c.requires in
    let l = c.loop-c in
    let t = term_taken c.args.k c.args.w c.args.powers.now l.yielded c.into_iter-c-iterator.result l.c-iterator c.next.new.self
    c.next.result (search rules) (search rules) l.yielded_by c.next.ensures.steps (c.in-Some.c, c.in-Some.v) c.in-Some.is in
    term_fits c.args.modulus.reciprocal.most R (λ t _. W.small t) (length l.yielded + 1) (omega arith) l.invariant (t.1 0) t.2

pub loop-c-preserved : goal.loop-c-preserved
loop-c-preserved c =
    let l = c.loop-c in
    let t = term_taken c.args.k c.args.w c.args.powers.now l.yielded c.into_iter-c-iterator.result l.c-iterator c.next.new.self
    c.next.result (search rules) (search rules) l.yielded_by c.next.ensures.steps (c.in-Some.c, c.in-Some.v) c.in-Some.is in
    simp length-append (terms_more c.args.powers.now (at c.args.w) (length l.yielded + 1) (omega arith) l.invariant (t.1 0) t.2
    c.add_product.ensures)

pub fold_row-requires : goal.fold_row-requires
fold_row-requires c =
    let (R, W, d) = c.requires in
    let l = c.loop-c in
    let all = terms_taken c.args.k c.args.w c.args.powers.now l.yielded c.into_iter-c-iterator.result l.c-iterator c.next.new.self
    c.next.result (search rules) (search rules) l.yielded_by c.next.ensures.steps c.in-None.is W.size R.size d in
    let rows = terms_row c.args.modulus.reciprocal.most R (λ t _. W.small t) (length l.yielded + 1) (omega arith) l.invariant in
    λ j k. rows.small j

pub returns : goal.returns
returns c =
    let (R, W, d) = c.requires in
    let l = c.loop-c in
    let all = terms_taken c.args.k c.args.w c.args.powers.now l.yielded c.into_iter-c-iterator.result l.c-iterator c.next.new.self
    c.next.result (search rules) (search rules) l.yielded_by c.next.ensures.steps c.in-None.is W.size R.size d in
    let e : length l.yielded + 1 ≡ suc c.args.k = omega arith in
    let z : 0 < c.args.modulus.p = omega (arith, c.args.modulus.reciprocal.least) in
    let f = c.fold_row.ensures in
    (result_row _ z f, λ x P. terms_values (at c.args.w) x z P (rw e at l.invariant) f)
