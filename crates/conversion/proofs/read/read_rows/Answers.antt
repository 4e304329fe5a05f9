use Rattle.std.proofs.Common.{◌≡◌, ◌<◌, ◌+◌, [], ◌∷◌, ◌++◌, length, take, sym, ◌∙◌, ap, subst, arith}
use Rattle.std.proofs.lemmas.List.{take_more}
use Rattle.fields.specs.declared.table.FieldRow.{FieldRow}
use Rattle.serde_json.specs.View.{view}
use Rattle.conversion.specs.Reading.{Reads}
use Rattle.conversion.proofs.ReadLemmas.{reads_more, ids_apart, first_fault}
use Rattle.conversion.proofs.read.read_rows.Goals as goal

pub returns-in-Err-clause-bad : goal.returns-in-Err-clause-bad
returns-in-Err-clause-bad c =
    first_fault c.args.mode c.args.rows.now (view c.args.json.now) c.loop-row.fields c.loop-row.row-index c.row-item.result c.in-Err.fault c.loop-row.invariant (omega arith) c.row-item.is c.in-Err.ensures.bad

pub loop-row-preserved : goal.loop-row-preserved
loop-row-preserved c =
    let rows = c.args.rows.now in
    let i = c.loop-row.row-index in
    let row = c.row-item.result in
    let within : i < length rows = omega arith in
    let next : take (i + 1) rows ≡ take i rows ++ row ∷ [] = take_more rows i row within ∙ ap (λ (r : FieldRow). take i rows ++ r ∷ []) (sym c.row-item.is) in
    let taken = c.in-Ok.ensures.ok in
    subst (λ rs. Reads c.args.mode rs (view c.args.json.now) c.read_into.new.fields) (sym next)
    (reads_more c.args.mode (take i rows) (view c.args.json.now) c.loop-row.fields c.read_into.new.fields row taken.0 c.loop-row.invariant (ids_apart rows i row c.requires.rise within c.row-item.is) c.read_into.ensures.map taken.1 taken.2)
