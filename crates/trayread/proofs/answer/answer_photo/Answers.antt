-- `trayread::answer::answer_photo` meets its contract: the cells and the record of a sound plan fit. Assumes nothing.
use mathlib.Core.Path.{◌≡◌, sym, subst, ◌∙◌}
use mathlib.Core.List.{List}
use Prim.Native.Nat.{ℕ, ◌+◌, ◌-◌, ◌≤◌}
use native.Mathlib.Omega.{arith}
use native.Mathlib.Nat.{add-sub_cancel_left}
use lib.ListN.{length, take, drop, replicate, length-drop}
use lib.Seq.{take_all}
use Rattle.definitions.specs.Plan.{plan_bytes, check_number}
use Rattle.definitions.specs.Code.{oblong, size, cells}
use Rattle.polynomial.specs.Record.{start, longest}
use Rattle.definitions.specs.Tray.{plan_of, buffer_of, tray_reading, tray_record}
use Rattle.definitions.specs.Printed.{tray_text}
use Rattle.definitions.proofs.Plan.{plan-longest, mark_size_lem}
use Rattle.definitions.proofs.Sound.{checked}
use Rattle.definitions.proofs.Tray.{buffer-zeros, count-text}
use Rattle.plan.specs.declared.season.Plan.{Plan}
use Rattle.plan.specs.Says.{bytes_of, Says}
use Rattle.plan.proofs.Said.{says}
use Rattle.plan.proofs.Values.{mark_cells_lem}
use Rattle.trayread.proofs.answer.answer_photo.Goals as goal

-- the plan is that of the input: it is sound, its record fits, and there are zeros for it
module _ (input : List ℕ) (said : Plan) (e : bytes_of said ≡ plan_of input) where
  told : Says (plan_of input) said
  told = subst (λ P. Says P said) e (says said)

  accepted : check_number (plan_of input) ≡ 0
  accepted = checked (plan_of input) told.sound

  size-most : size oblong (plan_of input) ≤ longest
  size-most = plan-longest told.sound

  cut : (n : ℕ) → n ≡ size oblong (plan_of input) → take {A = ℕ} n (replicate longest 0) ≡ buffer_of input
  cut n e = buffer-zeros input n longest e size-most

  size_is : {n : ℕ} → n ≡ start (said.grid.d + 1) → n ≡ size oblong (plan_of input)
  size_is e = (simp told.degree at e) ∙ sym (mark_size_lem (plan_of input))

pub returns-then-input-end : goal.returns-then-input-end
returns-then-input-end c =
    let i = c.args.input.now in
    let s = c.args.said in
    let plan = c.requires in
    let many = mark_cells_lem (told i s plan) in
    let e = count-text i (accepted i s plan) (λ e. c.if-input-end.true (omega (arith, e, many))) in
    rw (← e) (rw c.number.ensures at c.refused.ensures)

pub returns : goal.returns
unfolding tray_text tray_reading tray_record
returns c =
    let s = c.args.said in
    let plan = c.requires in
    let i = c.args.input.now in
    let n = cells oblong (plan_of i) in
    let l : length (drop (plan_bytes + n) i) ≤ length i - (plan_bytes + n) = simp length-drop (omega arith) in
    let u = take_all (length i - (plan_bytes + n)) (drop (plan_bytes + n) i) l in
    let buffer = cut i c.args.said c.requires c.start-size.result (size_is i s plan c.start-size.ensures) in
    rw (← (told i s plan).season)
    (rw (c.from.ensures, ← mark_cells_lem (told i s plan), add-sub_cancel_left plan_bytes n, u, buffer) at c.answer_mark.ensures)
