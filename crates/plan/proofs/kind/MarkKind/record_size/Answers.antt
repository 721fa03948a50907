-- `Mark::record_size` meets its contract: by the size of a record of two coordinates. Assumes nothing.
use mathlib.Core.Path.{sym, ap, ◌∙◌}
use Rattle.definitions.proofs.Plan.{mark_size_lem}
use Rattle.plan.specs.Says.{bytes_of}
use Rattle.plan.proofs.Said.{says}
use Rattle.plan.proofs.kind.MarkKind.record_size.Goals as goal

pub returns : goal.returns
returns c = let s = says c.args.plan in c.start.ensures ∙ simp s.degree (sym (mark_size_lem (bytes_of c.args.plan)))
