-- `reed_solomon::decoder::decode` meets its contract: what is known before each cell that enters. Assumes nothing.
use mathlib.Core.Path.{refl}
use Prim.Native.Nat.{◌*◌, ◌-◌, ◌/◌, ◌<◌}
use native.Mathlib.Omega.{arith}
use Rattle.welch_berlekamp.specs.Order.{taken}
use Rattle.reed_solomon.specs.Axis.{HoldsOn, FitsOn}
use Rattle.reed_solomon.specs.Near.{Refuted, RefutedBelow}
use Rattle.reed_solomon.proofs.Trial.{holds-few, enough_all}
use Rattle.reed_solomon.proofs.Levels.{Going, first-keys, going_first, going_keys, going_holds, going_enter}
use Rattle.reed_solomon.proofs.Levels.{tried_found, tried_none, doubtful_decoded, none-decoded, found-decoded}
use Rattle.reed_solomon.proofs.decoder.decode.Goals as goal
use Rattle.reed_solomon.proofs.decoder.decode.Goals.{After-enter, After-through-f}

-- the polynomial through the first cells
fits : (c : After-through-f) → FitsOn c.args.g c.args.s c.keys-all.result c.through-f.result
fits c = c.through-f.ensures _ (enough_all c.requires.0 c.keys-all.ensures)

-- a cell has entered
module _ (c : After-enter) where
  below : c.loop-next.next < c.args.g.full * 16
  below = omega (arith, c.levels-test.true, c.loop-next-test.true, c.loop-next.invariant.later)

  holds : HoldsOn c.args.g c.args.s c.enter.new.self
  holds = going_holds c.loop-next.invariant.going below c.enter.ensures

  -- no near polynomial is under the radius: then the loop goes on
  again :
      let a = c.args in
      let next = c.least-next-in-loop-next.result in
      Refuted a.g a.s a.u c.enter.new.self.entered →
      Going a.g a.s a.u c.keys-all.result c.without-others.result next c.enter.new.self ×
      RefutedBelow a.g a.s a.u (next / 16) × (taken - next < taken - c.loop-next.next)
  again = going_enter c.loop-next.invariant.going below c.enter.ensures c.without-others.ensures
      c.least-next-in-loop-next.ensures c.loop-next.invariant.passed

pub returns-then-doubt_sum-radius : goal.returns-then-doubt_sum-radius
returns-then-doubt_sum-radius c =
    doubtful_decoded c.requires.0 (omega (arith, c.doubt_sum.ensures, c.radius.ensures.0, c.if-doubt_sum-radius.true))

pub through-f-requires : goal.through-f-requires
through-f-requires c =
    let (R, I) = c.requires in
    (I, R.axis.points, R.symbols, record { n = _; enough = enough_all R c.keys-all.ensures })

pub measured-requires : goal.measured-requires
measured-requires c = (c.requires.0, record { keys = _; fits = fits (goal.at.measured-requires c).After-through-f })

pub returns-in-Some : goal.returns-in-Some
returns-in-Some c = found-decoded c.requires.0 (tried_found c.in-Some.ensures)

pub least-next-requires : goal.least-next-requires
least-next-requires c = first-keys c.requires.0 c.keys-all.ensures (fits (goal.at.least-next-requires c).After-through-f)

pub levels-init : goal.levels-init
levels-init c =
    let fit = fits (goal.at.levels-init c).After-through-f in
    let (G, P) = going_first c.requires.0 c.keys-all.ensures fit c.least-next.ensures (tried_none c.in_default.ensures) in
    record { none = refl; going = G; passed = P }

pub loop-next-init : goal.loop-next-init
loop-next-init c =
    let i = c.levels.invariant in record { none = i.none; going = i.going; passed = i.passed; later = omega arith }

pub levels-smaller : goal.levels-smaller
levels-smaller c =
    omega (arith, c.loop-next.invariant.later, c.loop-next-test.false, c.levels-test.true, c.requires.0.axis.full)

pub levels-preserved : goal.levels-preserved
levels-preserved c =
    let i = c.loop-next.invariant in record { none = i.none; going = i.going; passed = i.passed }

pub least-next-requires-in-loop-next : goal.least-next-requires-in-loop-next
least-next-requires-in-loop-next c = going_keys c.loop-next.invariant.going c.without-others.ensures

pub enter-requires : goal.enter-requires
enter-requires c =
    let G = c.loop-next.invariant.going in
    let a = G.received.axis in
    (c.requires.1, G.holds.shaped, a.points, omega arith, omega (arith, a), omega (arith, a, holds-few G.holds))

pub hopeful-requires : goal.hopeful-requires
hopeful-requires c =
    let R = c.requires.0 in
    let h = holds (goal.at.hopeful-requires c).After-enter in
    (R.axis, R.doubts, omega (arith, R.axis.most, holds-few h), h.state.bit)

pub attempt-requires : goal.attempt-requires
attempt-requires c =
    let h = holds (goal.at.attempt-requires c).After-enter in
    (c.requires.0, c.requires.1, c.keys-all.ensures, record { holds = h; hoped = c.hopeful.ensures.yes c.if-hopeful.true })

pub returns-in-Some-attempt : goal.returns-in-Some-attempt
returns-in-Some-attempt c = found-decoded c.requires.0 (tried_found c.in-Some-attempt.ensures)

pub loop-next-smaller-in_default-attempt : goal.loop-next-smaller-in_default-attempt
loop-next-smaller-in_default-attempt c =
    (again (goal.at.loop-next-smaller-in_default-attempt c).After-enter (tried_none c.in_default-attempt.ensures)).2

pub loop-next-preserved-in_default-attempt : goal.loop-next-preserved-in_default-attempt
loop-next-preserved-in_default-attempt c =
    let (G, P, small) = again (goal.at.loop-next-preserved-in_default-attempt c).After-enter
    (tried_none c.in_default-attempt.ensures) in
    record { none = c.loop-next.invariant.none; going = G; passed = P; later = omega (arith, small, c.loop-next.invariant.later) }

pub loop-next-smaller : goal.loop-next-smaller
loop-next-smaller c =
    let e = (goal.at.loop-next-smaller c).After-enter in
    (again e (c.hopeful.ensures.no c.if-hopeful.false _ c.requires.0 (holds e))).2

pub loop-next-preserved : goal.loop-next-preserved
loop-next-preserved c =
    let e = (goal.at.loop-next-preserved c).After-enter in
    let (G, P, small) = again e (c.hopeful.ensures.no c.if-hopeful.false _ c.requires.0 (holds e)) in
    record { none = c.loop-next.invariant.none; going = G; passed = P; later = omega (arith, small, c.loop-next.invariant.later) }

pub returns-after-levels : goal.returns-after-levels
returns-after-levels c =
    rw c.levels.invariant.none (none-decoded c.requires.0 (omega (arith, c.levels-test.false)) c.levels.invariant.passed)
