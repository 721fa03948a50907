-- `votes::combine` meets its contract: what the passes found makes the combined cell. Assumes nothing.
use mathlib.Core.Path.{◌∙◌}
use Prim.Native.Nat.{◌-◌}
use Rattle.votes.proofs.Column.{Found, found}
use Rattle.votes.proofs.combine.Goals as goal
use Rattle.votes.proofs.combine.Goals.{After-max-t}

-- all passes are made
passes : (c : After-max-t) →
    Found c.args.x c.counts-counts.ensures.1 c.most-m.result (255 - c.most-symbol.result) c.most-s.result
passes c = found _ c.counts-counts.ensures.1 _ _ _ _ _ _ c.counts-counts.ensures.0 c.most-m.ensures
    c.lownesses.ensures c.most-symbol.ensures c.others.ensures c.most-s.ensures

pub doubt-requires : goal.doubt-requires
doubt-requires c = rw (c.max-t.ensures, c.cast.ensures) (passes (goal.at.doubt-requires c).After-max-t).order

pub returns : goal.returns
returns c =
    let p = passes (goal.at.returns c).After-max-t in
    (p.symbol, rw (c.max-t.ensures, c.cast.ensures) at c.doubt.ensures ∙ p.doubt _)
