-- `text::Text::put_costs` meets its contract: the line's end is at most 24 bytes, since the numbers have 32 bits. Assumes
-- nothing.
use Rattle.std.proofs.Common.{◌≡◌, ◌++◌, ◌≤◌, length, length-append, arith, ap, append_assoc}
use mir.Syntax.{w32}
use mir.Val.{SFits}
use mir.Facts.{to_z-of_z}
use Rattle.definitions.specs.Printed.{costs}
use Rattle.definitions.proofs.Printed.{costs-length}
use Rattle.text.proofs.Signed.{abs_small}
use Rattle.text.proofs.Text.put_costs.Given.{Over}
use Rattle.text.proofs.Text.put_costs.Goals as goal
use Rattle.text.proofs.Text.put_costs.Goals.{Start}

margin-fits : (g : Over) (s : Start g) → SFits w32 s.args.reading.margin
margin-fits g s = record { sfits = omega arith }

line : (g : Over) (s : Start g) → length (costs s.args.reading) ≤ 24
line g s = costs-length s.args.reading (omega arith) (abs_small s.args.reading.margin (omega arith))

pub put_spaced-requires : goal.put_spaced-requires
unfolding costs
put_spaced-requires g c = omega (arith, simp length-append at (line g (goal.at.put_spaced-requires g c).Start), c.requires)

pub put_byte-requires : goal.put_byte-requires
unfolding costs
put_byte-requires g c =
    let l = simp length-append at (line g (goal.at.put_byte-requires g c).Start) in
    omega (arith, l, c.requires, simp length-append at (ap length c.put_spaced.ensures))

pub put_signed-requires : goal.put_signed-requires
unfolding costs
put_signed-requires g c =
    let l = simp length-append at (line g (goal.at.put_signed-requires g c).Start) in
    let m = simp length-append at (ap length c.put_spaced.ensures) in
    let n = simp length-append at (ap length c.put_byte.ensures) in
    rw (to_z-of_z (margin-fits g (goal.at.put_signed-requires g c).Start)) (omega (arith, l, c.requires, m, n))

pub put_byte-requires-2 : goal.put_byte-requires-2
unfolding costs
put_byte-requires-2 g c =
    let q = rw (to_z-of_z (margin-fits g (goal.at.put_byte-requires-2 g c).Start)) at c.put_signed.ensures in
    let l = simp length-append at (line g (goal.at.put_byte-requires-2 g c).Start) in
    let m = simp length-append at (ap length c.put_spaced.ensures) in
    let n = simp length-append at (ap length c.put_byte.ensures) in
    omega (arith, l, c.requires, m, n, simp length-append at (ap length q))

pub returns : goal.returns
unfolding costs
returns g c =
    let l = simp length-append at (line g (goal.at.returns g c).Start) in
    let q = rw (to_z-of_z (margin-fits g (goal.at.returns g c).Start)) at c.put_signed.ensures in
    let e : c.put_byte-2.new.self ≡ c.args.self.now ++ costs c.args.reading =
    rw (c.put_byte-2.ensures, q, c.put_byte.ensures, c.put_spaced.ensures) (simp append_assoc) in
    record { line = e; most = omega (arith, l, simp length-append at (ap length e)) }
