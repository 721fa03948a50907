-- `field::modulus::Modulus::fold` meets its contract: c stands for 256, and the rest of the high bytes for them. Assumes nothing.
use mathlib.Core.Path.{◌∙◌}
use native.Mathlib.Omega.{arith}
use Rattle.field.proofs.Reciprocal.{fold_is}
use Rattle.field.proofs.modulus.Modulus.fold.Goals as goal

pub returns : goal.returns
returns c =
    c.reduce.ensures.0
    ∙ fold_is c.args.t _ c.args.c (omega (arith, c.args.self.reciprocal.least)) c.reduce-high.ensures.0 c.requires.1
