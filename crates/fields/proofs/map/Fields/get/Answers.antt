use Rattle.std.proofs.Common.{List, Some, sym, ◌∙◌, ap}
use Rattle.std.proofs.lemmas.Option.{get_or_from_slice_get}
use Rattle.fields.specs.Map.{value_at}
use Rattle.fields.specs.Places.{IsAt}
use Rattle.fields.specs.declared.map.FieldPair.{FieldPair}
use Rattle.fields.proofs.MapLemmas.{found_at, absent_at}
use Rattle.fields.proofs.map.Fields.get.Goals as goal

pub returns-in-Ok : goal.returns-in-Ok
returns-in-Ok c =
    let slice = c.pairs-pairs.result.now in
    let h : IsAt slice c.args.id.now c.in-Ok.i = c.in-Ok.ensures in
    ap (λ (p : FieldPair). Some p.value) (get_or_from_slice_get slice c.in-Ok.i h.pair c.index-pairs-i.result h.there) ∙ sym (found_at slice c.args.id.now c.in-Ok.i h)
    ∙ ap (λ (ps : List FieldPair). value_at ps c.args.id.now) c.pairs-pairs.ensures.value

pub returns-in-Err : goal.returns-in-Err
returns-in-Err c =
    let slice = c.pairs-pairs.result.now in
    sym (absent_at slice c.args.id.now c.in-Err.field-0 c.pairs-pairs.ensures.map c.in-Err.ensures) ∙ ap (λ (ps : List FieldPair). value_at ps c.args.id.now) c.pairs-pairs.ensures.value
