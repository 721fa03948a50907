-- `text::program::fill` meets its contract: a read that gives bytes puts them after the others, and one that fails takes none.
-- Assumes nothing.
use Rattle.std.proofs.Common.{◌≡◌, ℕ, ◌+◌, ◌-◌, ◌≤◌, List, ◌++◌, length, take, refl, sym, subst}
use Rattle.std.proofs.Common.{rules, le_refl, drop_at, length-take-le}
use Rattle.std.proofs.lemmas.Slice.{take-put_mid_below}
use Rattle.std.specs.Io.KnownBytes.{Consumes}
use Rattle.std.proofs.KnownBytes.{Consumes-trans, Consumes-kept}
use borrow.Rule.Slice.PartMut.{put_mid, post_of}
use lib.Seq.{take-add, take-append-le}
use Rattle.text.proofs.program.fill.Goals as goal
use Rattle.text.proofs.program.fill.Goals.{in-Ok, in-Err+else-ne}

-- n bytes are read after a
more : (a k n : ℕ) (xs ys : List ℕ) → a ≤ length xs → n ≤ length ys → take a xs ++ take n ys ≡ take (a + n) (put_mid a k xs ys)
more a k n xs ys within fits =
    let after = post_of a k xs in
    rw (
      take-add a n (put_mid a k xs ys),
      take-put_mid_below a k xs ys a (le_refl a) within,
      drop_at (take a xs) (ys ++ after) a (length-take-le a xs within),
      take-append-le n ys after fits,
    ) refl

pub loop-preserved : goal.loop-preserved
loop-preserved g c =
    let l = c.loop in
    let k = length l.room - l.came in
    elim c.match-read.branch [
      | in-Ok w ↦
          let e = more l.came k w.in-Ok.n l.room c.read.new.buf l.invariant.1 w.in-Ok.ensures.bound.0 in
          let all = Consumes-trans _ _ _ _ _ l.invariant.2 w.in-Ok.ensures.bytes.0 in
          (search rules, rw w.came-is (search rules), rw w.came-is (subst (Consumes _ _) e all))
      | in-Err+else-ne w ↦
          let e = take-put_mid_below l.came k l.room c.read.new.buf l.came (le_refl l.came) l.invariant.1 in
          let all = Consumes-kept _ _ _ _ l.invariant.2 w.in-Err.ensures.bytes in
          (search rules, rw w.came-is (search rules), rw w.came-is (subst (Consumes _ _) (sym e) all))
    ]
