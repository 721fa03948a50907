-- `reed_solomon::decoder::measured` meets its contract: the rest tells the cost, and the slopes and nodes the coefficients.
-- Assumes nothing.
use native.Mathlib.Omega.{arith}
use Rattle.reed_solomon.specs.Decoded.{hit, miss}
use Rattle.reed_solomon.proofs.Trial.{refuted_rest, found-rest}
use Rattle.reed_solomon.proofs.decoder.measured.Goals as goal

pub returns-then-cost-radius : goal.returns-then-cost-radius
returns-then-cost-radius c =
    let (R, fit) = c.requires in
    miss (refuted_rest R fit.fits (omega (arith, c.word_cost-cost.ensures.0, c.radius.ensures.0, c.if-cost-radius.true)))

pub returns : goal.returns
returns c =
    let (R, fit) = c.requires in
    hit (found-rest R fit.fits c.coefficients-message.ensures c.add_multiple-values.ensures
    c.word_cost-cost.ensures.0 (omega (arith, c.radius.ensures.0, c.if-cost-radius.false)))
