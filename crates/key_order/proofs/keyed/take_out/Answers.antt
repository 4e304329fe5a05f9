use Rattle.std.proofs.Common.{List, subst}
use Rattle.key_order.specs.Order.{IsPlaceOf, IsGapOf}
use Rattle.key_order.proofs.ChangeLemmas.{removed_from_place, removed_from_gap}
use Rattle.key_order.proofs.keyed.take_out.Goals as goal

pub returns-in-Ok : goal.returns-in-Ok
returns-in-Ok g c =
    let key_of = g.T.Keyed.key_of in
    let place = subst (λ (l : List g.row.T.Denot). IsPlaceOf key_of l c.args.key.now c.in-Ok.place) c.deref.ensures.value c.in-Ok.ensures.place in
    removed_from_place key_of c.args.items.now.items _ c.args.key.now c.in-Ok.place c.requires place c.remove.ensures.items

pub returns-in_default : goal.returns-in_default
returns-in_default g c =
    let key_of = g.T.Keyed.key_of in
    let gap = subst (λ (l : List g.row.T.Denot). IsGapOf key_of l c.args.key.now c.in_default.field-0) c.deref.ensures.value c.in_default.ensures.gap in
    removed_from_gap key_of c.args.items.now.items c.args.key.now c.in_default.field-0 c.requires gap
