-- `text::Text::put_spaced` meets its contract: a space, then the number. Assumes nothing.
use Rattle.std.proofs.Common.{length, ap, arith, append_assoc, length-append}
use Rattle.definitions.proofs.Printed.{spaced-one}
use Rattle.text.proofs.Text.put_spaced.Goals as goal

pub put_byte-requires : goal.put_byte-requires
put_byte-requires g c = omega (arith, c.requires, ap length (spaced-one c.args.n))

pub put_natural-requires : goal.put_natural-requires
put_natural-requires g c =
    omega (arith, c.requires, ap length (spaced-one c.args.n), simp length-append at (ap length c.put_byte.ensures))

pub returns : goal.returns
returns g c = rw (spaced-one c.args.n, c.put_natural.ensures, c.put_byte.ensures) (simp append_assoc)
