-- `explaining::explain` meets its contract: what was measured and what was read are the definition's. Assumes nothing.
use native.Mathlib.Omega.{arith}
use Rattle.definitions.proofs.Explaining.{explains_answer, read-near, explains_other, explains_nothing}
use Rattle.explaining.proofs.Facts.{measured-cost, expecting_takes, excess_told, none-number}
use Rattle.explaining.proofs.explain.Goals as goal

pub returns-then-cost-radius : goal.returns-then-cost-radius
returns-then-cost-radius g c =
    let x = c.requires in
    explains_answer _ _ _ _ _ _ x
    (omega (arith, measured-cost x c.measure-cost.ensures, c.radius-radius.ensures.is, c.if-cost-radius.true))

pub read-requires : goal.read-requires
read-requires g c = expecting_takes c.requires

pub lowest-requires : goal.lowest-requires
lowest-requires g c =
    let x = c.requires in
    (x.given, (read-near _ _ _ _ _ _ x c.in-Ok.ensures.reads c.in-Ok.ensures.only).0, x.photo.symbols)

pub returns-in-Ok : goal.returns-in-Ok
returns-in-Ok g c =
    let x = c.requires in
    let read = c.in-Ok.ensures in
    rw c.lowest.ensures (explains_other _ _ _ _ _ _ x read.reads
    (omega (arith, measured-cost x c.measure-cost.ensures, c.radius-radius.ensures.is, c.if-cost-radius.false)) read.only)

pub returns-in-Err : goal.returns-in-Err
returns-in-Err g c =
    let x = c.requires in
    excess_told x (measured-cost x c.measure-cost.ensures) c.radius-radius.ensures.is
    (explains_nothing _ _ _ _ _ _ x c.in-Err.ensures.reads (none-number c.in-Err.ensures.only))
