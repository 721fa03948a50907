-- `text::Text::put_line` meets its contract. Assumes nothing.
use Rattle.std.proofs.Common.{◌≡◌, ◌++◌, length-append, arith, length, ap, append_assoc}
use Rattle.definitions.specs.Printed.{number_line}
use Rattle.definitions.proofs.Printed.{line-length}
use Rattle.text.proofs.Text.put_line.Goals as goal

pub put_spaced-requires : goal.put_spaced-requires
unfolding number_line
put_spaced-requires g c =
    let l = simp length-append at (line-length c.args.word.now c.args.number c.ranges.number.fits) in
    omega (arith, c.requires, l, simp length-append at (ap length c.put_bytes.ensures))

pub put_byte-requires : goal.put_byte-requires
unfolding number_line
put_byte-requires g c =
    let l = simp length-append at (line-length c.args.word.now c.args.number c.ranges.number.fits) in
    let m = simp length-append at (ap length c.put_bytes.ensures) in
    let n = simp length-append at (ap length c.put_spaced.ensures) in
    omega (arith, c.requires, l, m, n)

pub returns : goal.returns
unfolding number_line
returns g c =
    let l = simp length-append at (line-length c.args.word.now c.args.number c.ranges.number.fits) in
    let e : c.put_byte.new.self ≡ c.args.self.now ++ number_line c.args.word.now c.args.number =
    rw (c.put_byte.ensures, c.put_spaced.ensures, c.put_bytes.ensures) (simp append_assoc) in
    record { line = e; most = omega (arith, l, simp length-append at (ap length e)) }
