-- `text::Text::put_signed` meets its contract: '-' before the magnitude of a number below 0. Assumes nothing.
use Rattle.std.proofs.Common.{◌≡◌, ◌++◌, length, ap, ◌∙◌, append_assoc, length-append, arith}
use Rattle.definitions.specs.Printed.{decimal, signed}
use Rattle.text.proofs.Signed.{minus-text, plain_text}
use Rattle.text.proofs.Text.put_signed.Given.{Over}
use Rattle.text.proofs.Text.put_signed.Goals as goal
use Rattle.text.proofs.Text.put_signed.Goals.{After-unsigned_abs, then-z-lt0, else-z-lt0}

pub put_bytes-requires : goal.put_bytes-requires
put_bytes-requires g c = omega (arith, c.requires, ap length (minus-text c.args.z c.ranges.z c.if-z-lt0.true))

-- with its magnitude, what is put by then is the number
text : (g : Over) (c : After-unsigned_abs g) →
    c.if-z-lt0.self ++ decimal c.unsigned_abs.result ≡ c.args.self.now ++ signed c.args.z
text g c = elim c.if-z-lt0.branch [
  | then-z-lt0 w ↦
      let e = minus-text c.args.z c.ranges.z w.if-z-lt0.true in
      rw (w.self-is, w.put_bytes.ensures, c.unsigned_abs.ensures.value, append_assoc, e)
  | else-z-lt0 w ↦ rw (w.self-is, c.unsigned_abs.ensures.value, plain_text c.args.z c.ranges.z w.if-z-lt0.false)
]

pub put_natural-requires : goal.put_natural-requires
put_natural-requires g c =
    let e = text g (goal.at.put_natural-requires g c).After-unsigned_abs in
    omega (arith, c.requires, simp length-append at (ap length e))

pub returns : goal.returns
returns g c = c.put_natural.ensures ∙ text g (goal.at.returns g c).After-unsigned_abs
