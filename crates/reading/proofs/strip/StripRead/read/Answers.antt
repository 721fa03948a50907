-- `Strip::read` meets its contract: what is loaded is what the decoder asks for, and its answer is the reading.
-- Assumes nothing.
use native.Mathlib.Omega.{arith}
use Rattle.definitions.specs.Code.{strip}
use Rattle.definitions.proofs.Plan.{strip_size_lem}
use Rattle.plan.specs.Says.{bytes_of}
use Rattle.plan.proofs.Said.{says}
use Rattle.answers.proofs.Summary.{few-cells}
use Rattle.reading.proofs.StripLoaded.{strip_received, strip-refused, strip-under, strip-reading}
use Rattle.reading.proofs.strip.StripRead.read.Goals as goal

pub decode-requires : goal.decode-requires
decode-requires c =
    (strip_received (says c.args.plan) c.requires c.residue_row-s.ensures c.wide_row-u.ensures, c.inverses-table.ensures)

pub returns-in_default-clause-reads : goal.returns-in_default-clause-reads
returns-in_default-clause-reads c =
    strip-refused (says c.args.plan) c.requires c.residue_row-s.ensures c.wide_row-u.ensures c.in_default.ensures

pub store-requires : goal.store-requires
store-requires c =
    let t = c.requires in
    let message = c.in-Some.ensures.small in (
      omega (arith, t.room, strip_size_lem (bytes_of c.args.plan), t.photo.sound.low, t.photo.sound.tall.most, message.size),
      λ j _. omega (arith, message.small j, c.args.plan.grid.modulus.reciprocal.most),
    )

pub reading-requires : goal.reading-requires
reading-requires c =
    let s = says c.args.plan in
    let t = c.requires in
    let symbols = c.residue_row-s.ensures in
    let doubts = c.wide_row-u.ensures in
    let D = c.in-Some.ensures in
    let most = c.radius.ensures.most in
    let is = c.radius.ensures.is in (
      most,
      omega (arith, most, strip-under s t symbols doubts D is),
      few-cells strip t.photo,
      (strip-reading s t symbols doubts D c.store.ensures c.row.ensures c.differing-differing.ensures.0 is).0,
    )

pub returns-clause-reads : goal.returns-clause-reads
returns-clause-reads c =
    rw c.reading.ensures
    (strip-reading (says c.args.plan) c.requires c.residue_row-s.ensures c.wide_row-u.ensures c.in-Some.ensures c.store.ensures
    c.row.ensures c.differing-differing.ensures.0 c.radius.ensures.is).1
