-- `traywhy::answer::answer_parts` meets its contract: the record and the cells of a sound plan fit. Assumes nothing.
use mathlib.Core.Path.{◌≡◌, refl, sym, subst, ◌∙◌}
use mathlib.Core.List.{List}
use Prim.Native.Nat.{ℕ, ◌+◌, ◌*◌, ◌-◌, ◌≤◌}
use native.Mathlib.Omega.{arith}
use native.Mathlib.Nat.{mul-le-mul, add-sub_cancel_left}
use lib.ListN.{length, take, drop, replicate, length-replicate, length-drop}
use lib.Seq.{take_all}
use Rattle.definitions.specs.Plan.{plan_bytes, check_number}
use Rattle.definitions.specs.Code.{oblong, size, cells}
use Rattle.polynomial.specs.Record.{start, longest}
use Rattle.definitions.specs.Tray.{plan_of, buffer_of}
use Rattle.definitions.specs.Why.{why_reason, why_other, why_reading}
use Rattle.definitions.specs.Printed.{why_text}
use Rattle.definitions.proofs.Plan.{plan-longest, mark_size_lem}
use Rattle.definitions.proofs.Sound.{checked}
use Rattle.definitions.proofs.Tray.{buffer-zeros}
use Rattle.definitions.proofs.Why.{count_why}
use Rattle.plan.specs.declared.season.Plan.{Plan}
use Rattle.plan.specs.Says.{bytes_of, Says}
use Rattle.plan.proofs.Said.{says}
use Rattle.plan.proofs.Values.{mark_cells_lem}
use Rattle.traywhy.proofs.answer.answer_parts.Goals as goal

-- the plan is that of the input: it is sound, its record fits, and there are zeros for it
module _ (input : List ℕ) (said : Plan) (e : bytes_of said ≡ plan_of input) where
  told : Says (plan_of input) said
  told = subst (λ P. Says P said) e (says said)

  accepted : check_number (plan_of input) ≡ 0
  accepted = checked (plan_of input) told.sound

  size-most : size oblong (plan_of input) ≤ longest
  size-most = plan-longest told.sound

  buffer : (n : ℕ) → n ≡ size oblong (plan_of input) → take {A = ℕ} n (replicate longest 0) ≡ buffer_of input
  buffer n e = buffer-zeros input n longest e size-most

  cells-most : said.grid.a * said.grid.b ≤ 256
  cells-most = mul-le-mul said.grid.fit.rows said.grid.fit.columns

  size_is : {n : ℕ} → n ≡ start (said.grid.d + 1) → n ≡ size oblong (plan_of input)
  size_is e = (simp told.degree at e) ∙ sym (mark_size_lem (plan_of input))

  cells_are : cells oblong (plan_of input) ≡ said.grid.a * said.grid.b
  cells_are = mark_cells_lem told

pub slice_bounds-plan-end : goal.slice_bounds-plan-end
slice_bounds-plan-end c = sym (told c.args.input.now c.args.said c.requires).sound.whole

pub overflow_mul-cells : goal.overflow_mul-cells
overflow_mul-cells c = omega (arith, cells-most c.args.input.now c.args.said c.requires)

pub overflow_add-said : goal.overflow_add-said
overflow_add-said c =
    let f = c.args.said.grid.fit in
    omega (arith, f.low, f.rows)

pub start-size-requires : goal.start-size-requires
start-size-requires c =
    let f = c.args.said.grid.fit in
    omega (arith, f.low, f.rows)

pub overflow_add-symbols : goal.overflow_add-symbols
overflow_add-symbols c =
    let i = c.args.input.now in
    let s = c.args.said in
    let plan = c.requires in
    omega (arith, size_is i s plan c.start-size.ensures, size-most i c.args.said c.requires, cells-most i s plan)

pub overflow_add-doubts : goal.overflow_add-doubts
overflow_add-doubts c =
    let i = c.args.input.now in
    let s = c.args.said in
    let plan = c.requires in
    omega (arith, size_is i s plan c.start-size.ensures, size-most i c.args.said c.requires, cells-most i s plan)

pub overflow_add-doubts-2 : goal.overflow_add-doubts-2
overflow_add-doubts-2 c =
    let i = c.args.input.now in
    let s = c.args.said in
    let plan = c.requires in
    omega (arith, size_is i s plan c.start-size.ensures, size-most i c.args.said c.requires, cells-most i s plan)

pub returns-then-input-doubts : goal.returns-then-input-doubts
returns-then-input-doubts c =
    let i = c.args.input.now in
    let s = c.args.said in
    let plan = c.requires in
    let size = size_is i s plan c.start-size.ensures in
    let e = count_why i (accepted i s plan) (λ e. c.if-input-doubts.true (omega (arith, e, cells_are i s plan, size))) in
    rw (← e) (rw c.number.ensures at c.refused.ensures)

pub slice_bounds-other-end : goal.slice_bounds-other-end
slice_bounds-other-end c =
    let i = c.args.input.now in
    omega (arith, size_is i c.args.said c.requires c.start-size.ensures, size-most i c.args.said c.requires)

pub slice_bounds-answer_reason-end-4 : goal.slice_bounds-answer_reason-end-4
slice_bounds-answer_reason-end-4 c =
    let i = c.args.input.now in
    let e = size_is i c.args.said c.requires c.start-size.ensures in
    rw (buffer i c.args.said c.requires c.start-size.result e) (e ∙ sym (length-replicate _ _))

pub returns : goal.returns
unfolding why_text why_reason why_reading why_other
returns c =
    let i = c.args.input.now in
    let s = c.args.said in
    let plan = c.requires in
    let k = size oblong (plan_of i) in
    let n = cells oblong (plan_of i) in
    let l : length (drop (plan_bytes + k + n) i) ≤ length i - (plan_bytes + k + n) = simp length-drop (omega arith) in
    let u = take_all (length i - (plan_bytes + k + n)) (drop (plan_bytes + k + n) i) l in
    let z = buffer i c.args.said c.requires k refl in
    let b = add-sub_cancel_left plan_bytes k in
    let d = add-sub_cancel_left (plan_bytes + k) n in
    rw (size_is i s plan c.start-size.ensures, ← cells_are i s plan, b, d, u, z) at c.answer_reason.ensures
