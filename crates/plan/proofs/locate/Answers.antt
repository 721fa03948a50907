-- `plan::locate` meets its contract: the record that is found is the file's first of the season. Assumes nothing.
use mathlib.Core.Path.{refl, ap, ◌∙◌}
use mathlib.Core.Logic.{inl}
use Prim.Native.Nat.{◌*◌}
use native.Mathlib.Omega.{arith}
use Rattle.bounded.proofs.Index.{index-end, index-some}
use Rattle.definitions.specs.Numbers.{number_of}
use Rattle.definitions.specs.Finder.{find_rows, find_number, find_offset}
use Rattle.definitions.proofs.Refusals.{not-true, turned_true}
use Rattle.definitions.proofs.Numbers.{ends, ◌then◌, refused, handed}
use Rattle.plan.proofs.Records.{not-found}
use Rattle.plan.proofs.locate.Goals as goal

pub returns-in_err-when : goal.returns-in_err-when
unfolding find_rows find_number
returns-in_err-when c =
    let e = ends _ (find_rows _ _) (refused _ c.from_residual.ensures.1 c.in_err-when.ensures refl refl) in
    record { number = e; offset = not-found _ _ _ c.from_residual.ensures.0 e }

pub returns-in_err-k : goal.returns-in_err-k
unfolding find_rows find_number
returns-in_err-k c =
    let none = c.in_err-k.ensures.ok_part in
    let missing = turned_true (index-end _ _ (rw none at c.first_of.ensures)) in
    let e = handed _ _ c.from_residual-in_err-k.ensures.1 ∙ ap number_of (rw none at c.in_err-k.ensures.value)
    ∙ ends 12 (find_rows _ _) (c.in_ok-when.ensures then inl (missing, refl)) in
    record { number = e; offset = not-found _ _ _ c.from_residual-in_err-k.ensures.0 e }

pub returns : goal.returns
unfolding find_rows find_number find_offset
returns c =
    let (l, f) = rw c.in_ok-k.ensures.ok_part at c.first_of.ensures in
    let there = not-true (index-some _ _ λ z. omega (arith, z)) in
    let e = ends 0 (find_rows c.args.file.now c.args.season) (c.in_ok-when.ensures then there then refl) in
    record { number = e; offset = rw (← e) (ap (λ k. k * 40) f) }
