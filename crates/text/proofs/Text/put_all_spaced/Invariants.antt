-- `text::Text::put_all_spaced` meets its contract: the bytes so far are put. Assumes nothing.
use Rattle.std.proofs.Common.{◌≡◌, ◌++◌, take}
use Rattle.definitions.specs.Printed.{spaced}
use Rattle.text.proofs.Text.put_all_spaced.Given as goal

abbrev pub invariant-loop-byte : goal.invariant-loop-byte
invariant-loop-byte g l = l.self ≡ l.initial.self ++ spaced (take l.byte-index l.bytes)
