-- `reed_solomon::decoder::hopeful` meets its contract: each refusal says why no near polynomial is under the radius.
-- Assumes nothing.
use mathlib.Core.Path.{◌≡◌, sym, ◌∙◌}
use mathlib.Core.Bool.{false≢true}
use native.Mathlib.Omega.{arith}
use borrow.Author.Tests.{ltb-false}
use Rattle.bounded.specs.Bounded.{at, sum}
use Rattle.reed_solomon.specs.Near.{usable}
use Rattle.reed_solomon.proofs.Trial.{refuted_low, refuted_count, refuted_suspect, usable_bits, usable-sum}
use Rattle.reed_solomon.proofs.decoder.hopeful.Goals as goal
use Rattle.reed_solomon.proofs.decoder.hopeful.Goals.{After-count}

-- the usable cells were counted
counted : (c : After-count) → let t = c.args.pairs.now in
    c.count.result ≡ sum 16 (usable (at t.entered) (at t.second.e))
counted c =
    let t = c.args.pairs.now in
    c.count.ensures ∙ usable-sum (at t.entered) (at t.second.e) c.chosen.ensures

pub returns-then-pairs-g : goal.returns-then-pairs-g
returns-then-pairs-g c = record { yes = λ e. absurd (false≢true e); no = λ _ s R H. refuted_low R H c.if-pairs-g.true }

pub count-requires : goal.count-requires
count-requires c =
    let t = c.args.pairs.now in
    usable_bits (at t.entered) (at t.second.e) c.chosen.ensures c.requires.3

pub returns-then-count-pairs : goal.returns-then-count-pairs
returns-then-count-pairs c = record {
  yes = λ e. absurd (false≢true e);
  no = λ _ s R H. refuted_count R H λ e. c.if-count-pairs.true (counted (goal.at.returns-then-count-pairs c).After-count ∙ e);
}

pub returns : goal.returns
returns c = record {
  yes = λ e. record {
    high = c.if-pairs-g.false;
    count = sym (counted (goal.at.returns c).After-count) ∙ c.if-count-pairs.false;
  };
  no = λ e s R H.
      let over = ltb-false c.word_cost-cost.result c.radius.result e in
      refuted_suspect R H c.chosen-suspect.ensures (omega (arith, c.word_cost-cost.ensures.0, c.radius.ensures.0, over));
}
