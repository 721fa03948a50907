-- `plan::check` meets its contract: at each return the tests before it failed, and its own holds. Assumes nothing.
use mathlib.Core.Path.{refl, sym, ap, ◌∙◌}
use mathlib.Core.Bool.{not}
use lib.Dec.{leb}
use Rattle.bounded.specs.Bounded.{at}
use Rattle.definitions.specs.Plan.{plan_rows, check_number}
use Rattle.definitions.proofs.Numbers.{ends, ◌then◌, refused, decided}
use Rattle.plan.proofs.Reached.{spare-reached}
use Rattle.plan.proofs.check.Goals as goal

pub returns-in_err-when : goal.returns-in_err-when
unfolding plan_rows check_number
returns-in_err-when c =
    ends _ (plan_rows c.args.plan.now) (refused _ c.from_residual.ensures.1 c.in_err-when.ensures refl refl)

pub returns-in_err-when-2 : goal.returns-in_err-when-2
unfolding plan_rows check_number
returns-in_err-when-2 c =
    let spare = spare-reached _ c.in_ok-when.ensures c.reaches.ensures in
    ends _ (plan_rows c.args.plan.now) (c.in_ok-when.ensures
    then refused _ c.from_residual-in_err-when-2.ensures.1 c.in_err-when-2.ensures spare refl)

pub returns-in_err-when-3 : goal.returns-in_err-when-3
unfolding plan_rows check_number
returns-in_err-when-3 c =
    let spare = spare-reached _ c.in_ok-when.ensures c.reaches.ensures in
    ends _ (plan_rows c.args.plan.now) (c.in_ok-when.ensures then (spare ∙ c.in_ok-when-2.ensures)
    then refused _ c.from_residual-in_err-when-3.ensures.1 c.in_err-when-3.ensures (sym (ap not c.is_prime.ensures)) refl)

pub returns-in_err-when-4 : goal.returns-in_err-when-4
unfolding plan_rows check_number
returns-in_err-when-4 c =
    let spare = spare-reached _ c.in_ok-when.ensures c.reaches.ensures in
    ends _ (plan_rows c.args.plan.now) (c.in_ok-when.ensures then (spare ∙ c.in_ok-when-2.ensures)
    then (sym (ap not c.is_prime.ensures) ∙ c.in_ok-when-3.ensures)
    then refused _ c.from_residual-in_err-when-4.ensures.1 c.in_err-when-4.ensures refl refl)

pub returns-in_err-when-5 : goal.returns-in_err-when-5
unfolding plan_rows check_number
returns-in_err-when-5 c =
    let spare = spare-reached _ c.in_ok-when.ensures c.reaches.ensures in
    ends _ (plan_rows c.args.plan.now) (c.in_ok-when.ensures then (spare ∙ c.in_ok-when-2.ensures)
    then (sym (ap not c.is_prime.ensures) ∙ c.in_ok-when-3.ensures) then c.in_ok-when-4.ensures
    then refused _ c.from_residual-in_err-when-5.ensures.1 c.in_err-when-5.ensures (sym c.is_unfit.ensures) refl)

pub returns-in_err-when-6 : goal.returns-in_err-when-6
unfolding plan_rows check_number
returns-in_err-when-6 c =
    let spare = spare-reached _ c.in_ok-when.ensures c.reaches.ensures in
    ends _ (plan_rows c.args.plan.now) (c.in_ok-when.ensures then (spare ∙ c.in_ok-when-2.ensures)
    then (sym (ap not c.is_prime.ensures) ∙ c.in_ok-when-3.ensures) then c.in_ok-when-4.ensures
    then (sym c.is_unfit.ensures ∙ c.in_ok-when-5.ensures)
    then refused _ c.from_residual-in_err-when-6.ensures.1 c.in_err-when-6.ensures (sym c.is_unfit-2.ensures) refl)

pub returns-in_err-when-7 : goal.returns-in_err-when-7
unfolding plan_rows check_number
returns-in_err-when-7 c =
    let spare = spare-reached _ c.in_ok-when.ensures c.reaches.ensures in
    let low = sym (ap (λ m. leb m (at c.args.plan.now 5)) c.min.ensures) in
    ends _ (plan_rows c.args.plan.now) (c.in_ok-when.ensures then (spare ∙ c.in_ok-when-2.ensures)
    then (sym (ap not c.is_prime.ensures) ∙ c.in_ok-when-3.ensures) then c.in_ok-when-4.ensures
    then (sym c.is_unfit.ensures ∙ c.in_ok-when-5.ensures)
    then (sym c.is_unfit-2.ensures ∙ c.in_ok-when-6.ensures)
    then refused _ c.from_residual-in_err-when-7.ensures.1 c.in_err-when-7.ensures low refl)

pub returns-in_err-when-8 : goal.returns-in_err-when-8
unfolding plan_rows check_number
returns-in_err-when-8 c =
    let spare = spare-reached _ c.in_ok-when.ensures c.reaches.ensures in
    let low = sym (ap (λ m. leb m (at c.args.plan.now 5)) c.min.ensures) in
    ends _ (plan_rows c.args.plan.now) (c.in_ok-when.ensures then (spare ∙ c.in_ok-when-2.ensures)
    then (sym (ap not c.is_prime.ensures) ∙ c.in_ok-when-3.ensures) then c.in_ok-when-4.ensures
    then (sym c.is_unfit.ensures ∙ c.in_ok-when-5.ensures)
    then (sym c.is_unfit-2.ensures ∙ c.in_ok-when-6.ensures) then (low ∙ c.in_ok-when-7.ensures)
    then refused _ c.from_residual-in_err-when-8.ensures.1 c.in_err-when-8.ensures (sym c.is_misplaced.ensures) refl)

pub returns : goal.returns
unfolding plan_rows check_number
returns c =
    let spare = spare-reached _ c.in_ok-when.ensures c.reaches.ensures in
    let low = sym (ap (λ m. leb m (at c.args.plan.now 5)) c.min.ensures) in
    ends _ (plan_rows c.args.plan.now) (c.in_ok-when.ensures then (spare ∙ c.in_ok-when-2.ensures)
    then (sym (ap not c.is_prime.ensures) ∙ c.in_ok-when-3.ensures) then c.in_ok-when-4.ensures
    then (sym c.is_unfit.ensures ∙ c.in_ok-when-5.ensures)
    then (sym c.is_unfit-2.ensures ∙ c.in_ok-when-6.ensures) then (low ∙ c.in_ok-when-7.ensures)
    then (sym c.is_misplaced.ensures ∙ c.in_ok-when-8.ensures)
    then decided _ _ _ c.when-9.ensures (sym c.is_misplaced-2.ensures) refl)
