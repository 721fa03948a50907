-- `sets::holding::withdraw` meets its contract: the symbols are unread again, and the flag is 0. Assumes nothing.
use mathlib.Core.Path.{refl, ap, ◌∙◌}
use native.Mathlib.Omega.{arith}
use Rattle.definitions.specs.Numbers.{number}
use Rattle.definitions.specs.Sets.{withdraw_memory}
use Rattle.definitions.proofs.Refusals.{◌&◌}
use Rattle.definitions.proofs.Numbers.{handed}
use Rattle.definitions.proofs.Sets.{withdraw-at}
use Rattle.sets.proofs.Refused.{keeps, gives}
use Rattle.sets.proofs.Memory.{put-blank}
use Rattle.sets.proofs.holding.withdraw.Goals as goal

pub returns-in_err-when : goal.returns-in_err-when
unfolding withdraw_memory
returns-in_err-when c =
    let (none, above) = c.in_err-when.ensures in
    let e = withdraw-at c.args.set.now c.args.k 0 above in
    record { number = handed _ _ c.from_residual.ensures.1 ∙ ap number none ∙ e; memory = keeps _ _ _ e (λ z. omega arith) }

pub returns-in_err-when-2 : goal.returns-in_err-when-2
unfolding withdraw_memory
returns-in_err-when-2 c =
    let (none, free) = c.in_err-when-2.ensures in
    let e = withdraw-at c.args.set.now c.args.k 1 (c.in_ok-when.ensures & rw free) in
    record {
      number = handed _ _ c.from_residual-in_err-when-2.ensures.1 ∙ ap number none ∙ e;
      memory = keeps _ _ _ e (λ z. omega arith);
    }

pub returns : goal.returns
unfolding withdraw_memory
returns c =
    let e = withdraw-at c.args.set.now c.args.k 2 (c.in_ok-when.ensures & (rw c.in_ok-when-2.ensures) & tt) in record {
      number = e;
      memory = put-blank c.args.set.now _ c.args.k _ (omega arith) c.fill.ensures ∙ gives _ _ _ e refl;
    }
