use Rattle.std.proofs.Common.{List, refl, subst, arith, rules}
use Rattle.object_journal.specs.declared.key.Key.{Key}
use Rattle.key_order.specs.Order.{IsPlaceOf, IsGapOf}
use Rattle.key_order.proofs.ChangeLemmas.{put_in_place, put_in_gap, key_there, key_not_there, ok_gives}
use Rattle.key_order.proofs.keyed.put.Goals as goal

pub returns-in-Ok-clause-changed : goal.returns-in-Ok-clause-changed
returns-in-Ok-clause-changed g c =
    let key_of = g.T.Keyed.key_of in
    let in_list = subst (λ (l : List g.row.T.Denot). IsPlaceOf key_of l c.key.result.now c.in-Ok.place) c.deref.ensures.value c.in-Ok.ensures.place in
    let place = subst (λ (k : Key). IsPlaceOf key_of c.args.items.now.items k c.in-Ok.place) c.key.ensures in_list in
    put_in_place key_of c.args.items.now.items _ (key_of c.args.item) c.args.item c.in-Ok.place refl c.requires.ordered place refl

pub returns-in-Ok-clause-is_new : goal.returns-in-Ok-clause-is_new
returns-in-Ok-clause-is_new g c =
    let key_of = g.T.Keyed.key_of in
    let in_list = subst (λ (l : List g.row.T.Denot). IsPlaceOf key_of l c.key.result.now c.in-Ok.place) c.deref.ensures.value c.in-Ok.ensures.place in
    let place = subst (λ (k : Key). IsPlaceOf key_of c.args.items.now.items k c.in-Ok.place) c.key.ensures in_list in
    (λ no held. search rules, λ none. absurd (none (key_there key_of c.args.items.now.items (key_of c.args.item) c.in-Ok.place place)))

pub returns-in-Err-clause-changed : goal.returns-in-Err-clause-changed
returns-in-Err-clause-changed g c =
    let key_of = g.T.Keyed.key_of in
    let in_list = subst (λ (l : List g.row.T.Denot). IsGapOf key_of l c.key.result.now c.in-Err.place) c.deref.ensures.value c.in-Err.ensures.gap in
    let gap = subst (λ (k : Key). IsGapOf key_of c.args.items.now.items k c.in-Err.place) c.key.ensures in_list in
    let room = c.requires.room (λ held. key_not_there key_of c.args.items.now.items (key_of c.args.item) c.in-Err.place c.requires.ordered gap held) in
    let ok = c.insert-inserted.ensures.succeeds (omega (arith, room)) in
    put_in_gap key_of c.args.items.now.items _ (key_of c.args.item) c.args.item c.in-Err.place refl c.requires.ordered gap (ok_gives c.insert-inserted.result _ _ _ ok c.insert-inserted.ensures.items)

pub returns-in-Err-clause-is_new : goal.returns-in-Err-clause-is_new
returns-in-Err-clause-is_new g c =
    let key_of = g.T.Keyed.key_of in
    let in_list = subst (λ (l : List g.row.T.Denot). IsGapOf key_of l c.key.result.now c.in-Err.place) c.deref.ensures.value c.in-Err.ensures.gap in
    let gap = subst (λ (k : Key). IsGapOf key_of c.args.items.now.items k c.in-Err.place) c.key.ensures in_list in
    (λ yes held. key_not_there key_of c.args.items.now.items (key_of c.args.item) c.in-Err.place c.requires.ordered gap held, λ none. refl)
