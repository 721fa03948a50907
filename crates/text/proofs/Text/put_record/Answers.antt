-- `text::Text::put_record` meets its contract. Assumes nothing.
use Rattle.std.proofs.Common.{length-append, arith, length, ap, append_assoc}
use Rattle.definitions.specs.Printed.{record_line}
use Rattle.definitions.proofs.Printed.{record-length}
use Rattle.text.proofs.Text.put_record.Goals as goal

pub put_all_spaced-requires : goal.put_all_spaced-requires
unfolding record_line
put_all_spaced-requires g c =
    let l = simp length-append at (record-length c.args.«record».now (λ i. omega (arith, c.type_inv.«record» i))) in
    omega (arith, c.requires, l, simp length-append at (ap length c.put_bytes.ensures))

pub put_bytes-requires-2 : goal.put_bytes-requires-2
unfolding record_line
put_bytes-requires-2 g c =
    let l = simp length-append at (record-length c.args.«record».now (λ i. omega (arith, c.type_inv.«record» i))) in
    let m = simp length-append at (ap length c.put_bytes.ensures) in
    let n = simp length-append at (ap length c.put_all_spaced.ensures) in
    omega (arith, c.requires, l, m, n)

pub returns : goal.returns
unfolding record_line
returns g c = rw (c.put_bytes-2.ensures, c.put_all_spaced.ensures, c.put_bytes.ensures) (simp append_assoc)
