-- `reed_solomon::decoder::attempt` meets its contract: the usable cells are enough, and what is near goes through them.
-- Assumes nothing.
use Rattle.welch_berlekamp.specs.Newton.{Enough}
use Rattle.reed_solomon.proofs.Trial.{enough-usable, tried_usable}
use Rattle.reed_solomon.proofs.decoder.attempt.Goals as goal
use Rattle.reed_solomon.proofs.decoder.attempt.Goals.{After-marked}

-- the usable cells are enough
enough : (c : After-marked) → let g = c.args.g in
    Enough g.modulus.p g.n g.k g.x c.marked.result
enough c =
    let (R, _, K, C) = c.requires in
    enough-usable R C.holds c.chosen-usable.ensures K c.marked.ensures C.hoped

pub through-f-requires : goal.through-f-requires
through-f-requires c =
    let (R, I, _, _) = c.requires in
    let e = enough (goal.at.through-f-requires c).After-marked in
    (I, R.axis.points, R.symbols, record { n = _; enough = e })

pub measured-requires : goal.measured-requires
measured-requires c =
    (c.requires.0, record { keys = _; fits = c.through-f.ensures _ (enough (goal.at.measured-requires c).After-marked) })

pub returns : goal.returns
returns c =
    let (R, _, K, C) = c.requires in
    tried_usable R C.holds c.chosen-usable.ensures K c.marked.ensures
    (c.through-f.ensures _ (enough (goal.at.returns c).After-marked)) c.measured.ensures
