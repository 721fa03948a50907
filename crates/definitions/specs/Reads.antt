-- What a reader and an explainer have to hand back.
--
--   Reads C P s u B r b         r is the reading, and b are the bytes of the record buffer afterwards
--   Explains C P s u F B r b    r is the reason, and b are the bytes of the buffer for another record afterwards
--
-- What this file is for: the contracts of the readers, which are called where the plan's refusals and 6 to 8 do not apply, and of
-- the explainer, which is called where 9 does not apply either.
use Rattle.std.specs.Prelude.{◌≡◌, List, ℕ}
use Rattle.definitions.specs.declared.Reading.{Reading}
use Rattle.definitions.specs.declared.Reason.{Reason}
use Rattle.definitions.specs.Code.{Code}
use Rattle.definitions.specs.Calls.{read_reading, read_buffer}
use Rattle.definitions.specs.Explaining.{explain_reason, explain_buffer}

pub record Reads (C : Code) (P s u B : List ℕ) (r : Reading) (b : List ℕ) : Type 0 where
  pub reading : r ≡ read_reading C P s u B
  pub buffer : b ≡ read_buffer C P s u B

pub record Explains (C : Code) (P s u F B : List ℕ) (r : Reason) (b : List ℕ) : Type 0 where
  pub reason : r ≡ explain_reason C P s u F B
  pub buffer : b ≡ explain_buffer C P s u F B
