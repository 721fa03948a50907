-- `windows::find` meets its contract: row by row of its refusals, by the keys of the windows' end days. Assumes nothing.
use Rattle.std.proofs.Common.{rules, ◌≡◌, sym, ap, ◌∙◌, inl, inr, arith, Err, None, Some, position}
use Rattle.std.specs.Result.{result_ok}
use Rattle.definitions.proofs.Refusals.{answered}
use Rattle.definitions.specs.declared.Refusal.TheVariants.{WindowFile, NoWindow}
use Rattle.windows.specs.Spans.{has_key}
use Rattle.calendar.specs.Dates.{key}
use Rattle.windows.proofs.EndDays.{err_of, ok_of}
use Rattle.windows.proofs.Found.{Read, cut-by, whole, broken, many, at_fault, at_clash}
use Rattle.windows.proofs.Found.{unreal, nowhere, somewhere, its-season, no-season-beside}
use Rattle.windows.proofs.find.Goals as goal
use Rattle.windows.proofs.find.Goals.{In_ok-read}

pub returns-then-not-is_empty : goal.returns-then-not-is_empty
returns-then-not-is_empty c = elim c.then-not-is_empty.either [
  | inl h ↦
      let e = broken c.args.file.now c.args.date c.as_chunks.ensures.back_len c.is_empty.ensures h in
      record { number = e; season = no-season-beside _ _ e λ z. omega arith }
  | inr (h, l) ↦
      let w = whole c.args.file.now c.as_chunks.ensures.back_len c.is_empty.ensures h in
      let e = many c.args.file.now c.args.date w (omega (arith, l, c.as_chunks.ensures.front_len)) in
      record { number = e; season = no-season-beside _ _ e λ z. omega arith }
]

pub returns-in_err-read : goal.returns-in_err-read
returns-in_err-read c =
    let h : c.from_residual.result ≡ Err WindowFile = search rules in
    let cut = cut-by c.args.file.now c.as_chunks.ensures.back_len c.is_empty.ensures c.if-not-is_empty.false
    c.as_chunks.ensures.front c.as_chunks.ensures.front_len (omega arith) in
    let f = (err_of _ _ _ (sym c.read.ensures.read ∙ c.in_err-read.was)).0 in
    let e = at_fault c.args.file.now c.args.date cut f in
    rw h (record { number = e; season = no-season-beside _ _ e λ z. omega arith })

known : (c : In_ok-read) → Read c.args.file.now c.as_chunks.result.0.now c.read.new.spans
known c = record {
  cut = cut-by c.args.file.now c.as_chunks.ensures.back_len c.is_empty.ensures c.if-not-is_empty.false
      c.as_chunks.ensures.front c.as_chunks.ensures.front_len (omega arith);
  clear = (ok_of _ _ _ (sym c.read.ensures.read ∙ c.in_ok-read.was)).0;
  spans = c.in_ok-read.ensures.spans;
}

pub returns-then-is_clashing : goal.returns-then-is_clashing
returns-then-is_clashing c =
    let e = at_clash c.args.file.now c.args.date (known (goal.at.returns-then-is_clashing c).In_ok-read)
    (answered c.is_clashing.ensures c.if-is_clashing.true) in
    record { number = e; season = no-season-beside _ _ e λ z. omega arith }

pub returns-then-not-is_real : goal.returns-then-not-is_real
returns-then-not-is_real c =
    let e = unreal c.args.file.now c.args.date (known (goal.at.returns-then-not-is_real c).In_ok-read)
    (answered c.is_clashing.ensures c.if-is_clashing.false) (answered c.is_real.ensures c.if-not-is_real.true) in
    record { number = e; season = no-season-beside _ _ e λ z. omega arith }

pub returns-in_err-place : goal.returns-in_err-place
returns-in_err-place c =
    let h : c.from_residual-in_err-place.result ≡ Err NoWindow = search rules in
    let p : position (has_key (key c.args.date)) c.read.new.spans ≡ None =
    rw c.key.ensures at (sym c.place.ensures) ∙ c.ok_or.ensures.ok_part ∙ ap result_ok c.in_err-place.was in
    let e = nowhere c.args.file.now c.args.date (known (goal.at.returns-in_err-place c).In_ok-read)
    (answered c.is_clashing.ensures c.if-is_clashing.false) (answered c.is_real.ensures c.if-not-is_real.false) p in
    rw h (record { number = e; season = no-season-beside _ _ e λ z. omega arith })

pub returns : goal.returns
returns c =
    let p : position (has_key (key c.args.date)) c.read.new.spans ≡ Some c.in_ok-place.place =
    rw c.key.ensures at (sym c.place.ensures) ∙ c.ok_or.ensures.ok_part ∙ ap result_ok c.in_ok-place.was in
    let R = known (goal.at.returns c).In_ok-read in
    let apart = answered c.is_clashing.ensures c.if-is_clashing.false in
    let r = answered c.is_real.ensures c.if-not-is_real.false in
    record {
      number = somewhere c.args.file.now c.args.date R apart r p;
      season = its-season c.args.file.now c.args.date R apart r p c.from_be_bytes.ensures;
    }
