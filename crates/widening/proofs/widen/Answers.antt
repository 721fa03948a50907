-- `widening::widen` meets its contract: row by row of its refusals. Assumes nothing.
use mathlib.Core.Path.{sym, ◌∙◌}
use native.Mathlib.Omega.{arith}
use borrow.Author.Tests.{lt-ltb, le-ltb}
use Rattle.definitions.specs.Widening.{widen_rows}
use Rattle.definitions.proofs.Refusals.{equal, unequal}
use Rattle.definitions.proofs.Widening.{widen-at, widen-refused, widen-filled}
use Rattle.widening.proofs.widen.Goals as goal

pub returns-then-old : goal.returns-then-old
unfolding widen_rows
returns-then-old c =
    let e = widen-at c.args.old.now c.args.wide.now 0 (lt-ltb _ _ (omega arith)) in
    record { number = e; buffer = sym (widen-refused _ _ (λ z. omega (arith, e, z))) }

pub returns-then-old-ne0 : goal.returns-then-old-ne0
unfolding widen_rows
returns-then-old-ne0 c =
    let e = widen-at c.args.old.now c.args.wide.now 1 (le-ltb _ _ (omega arith), unequal _ _ c.if-old-ne0.true) in
    record { number = e; buffer = sym (widen-refused _ _ (λ z. omega (arith, e, z))) }

pub returns-then-wide-old : goal.returns-then-wide-old
unfolding widen_rows
returns-then-wide-old c =
    let e = widen-at c.args.old.now c.args.wide.now 2
    (le-ltb _ _ (omega arith), (equal _ _ c.if-old-ne0.false, unequal _ _ c.if-wide-old.true)) in
    record { number = e; buffer = sym (widen-refused _ _ (λ z. omega (arith, e, z))) }

pub returns : goal.returns
unfolding widen_rows
returns c =
    let e = widen-at c.args.old.now c.args.wide.now 3
    (le-ltb _ _ (omega arith), (equal _ _ c.if-old-ne0.false, (equal _ _ c.if-wide-old.false, tt))) in
    record { number = e; buffer = c.widen_plans.ensures ∙ widen-filled _ _ e }
