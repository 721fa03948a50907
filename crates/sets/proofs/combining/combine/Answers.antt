-- `sets::combining::combine` meets its contract: the checks come first, and after them every cell is combined. Assumes nothing.
use mathlib.Core.Path.{refl, sym, ap, ◌∙◌}
use Rattle.definitions.specs.Sets.{combine_symbols, combine_doubts, combined_symbols, combined_doubts}
use Rattle.definitions.specs.Cost.{full}
use Rattle.definitions.proofs.Numbers.{number-some, handed}
use Rattle.definitions.proofs.Sets.{combine-refused}
use Rattle.plan.proofs.Said.{says}
use Rattle.sets.proofs.Refused.{combine-accepted, keeps, gives}
use Rattle.sets.proofs.combining.combine.Goals as goal

pub returns-in_err-plan : goal.returns-in_err-plan
unfolding combine_symbols combine_doubts
returns-in_err-plan c =
    let k = number-some c.in_err-plan.field-0.0 in
    let e = combine-refused _ _ _ _ c.in_err-plan.ensures.number k in
    record { number = handed _ _ c.from_residual.ensures.1 ∙ e; symbols = keeps _ _ _ e k; doubts = keeps _ _ _ e k }

pub returns-in_err-combine : goal.returns-in_err-combine
unfolding combine_symbols combine_doubts
returns-in_err-combine c =
    let k = number-some c.in_err-combine.field-0.0 in
    let e = c.in_err-combine.ensures _ c.in_ok-plan.ensures.plan in
    record {
      number = handed _ _ c.from_residual-in_err-combine.ensures.1 ∙ e;
      symbols = keeps _ _ _ e k;
      doubts = keeps _ _ _ e k;
    }

pub cells-requires : goal.cells-requires
cells-requires c =
    let a = combine-accepted _ _ _ (sym (c.in_ok-combine.ensures _ c.in_ok-plan.ensures.plan)) in
    (c.requires, a.1, a.2)

pub returns : goal.returns
unfolding combine_symbols combine_doubts combined_symbols combined_doubts
returns c =
    let own = c.in_ok-plan.ensures.plan in
    let e = c.in_ok-combine.ensures _ own in
    let a = combine-accepted _ _ _ (sym e) in
    let full_is = (says c.in_ok-plan.plan).full ∙ ap full own in record {
      number = e;
      symbols = c.cells.ensures.symbols ∙ rw a.0 (gives _ _ _ e refl);
      doubts = c.cells.ensures.doubts ∙ rw (a.0, full_is) (gives _ _ _ e refl);
    }
