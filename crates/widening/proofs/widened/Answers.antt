-- `widening::widened` meets its contract: three parts of the plan are copied, each behind the other. Assumes nothing.
use Rattle.std.proofs.Common.{◌≡◌, List, ℕ, ◌++◌, take, replicate, arith, refl, sym, subst}
use borrow.Rule.Slice.PartMut.{put_mid, mid_of}
use Rattle.bounded.specs.Bounded.{at, tab}
use Rattle.bounded.proofs.Tab.{tab-is}
use Rattle.definitions.specs.Widening.{widened}
use Rattle.widening.proofs.widened.Goals as goal

abbrev copied : List ℕ → List ℕ
copied Q = put_mid 22 16 (put_mid 4 18 (take 4 Q ++ replicate 36 0) (mid_of 3 18 Q)) (mid_of 5 16 Q)

pub returns : goal.returns
unfolding tab widened
returns c =
    let Q = c.args.old.now in
    let whole = tab-is 24 (at Q) Q (omega arith) λ i l. refl in
    let P : List ℕ → Type 0 = λ R. copied R ≡ widened R in
    rw (c.copy_from_slice.ensures.after, c.copy_from_slice-2.ensures.after, c.copy_from_slice-3.ensures.after)
    (subst P (sym whole) refl)
