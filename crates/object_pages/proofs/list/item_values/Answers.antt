use Rattle.std.proofs.Common.{◌≡◌, ◌<◌, ◌+◌, [], ◌∷◌, ◌++◌, length, map, take, sym, ◌∙◌, ap, subst, arith}
use Rattle.std.proofs.lemmas.List.{map-append, take_more}
use Rattle.fields.specs.Fits.{Fits}
use Rattle.object_pages.specs.Documents.{AreShown}
use Rattle.object_pages.proofs.PageLemmas.{shown_push, plain_push}
use Rattle.object_state.specs.declared.object.Stored.{Stored}
use Rattle.request_target.specs.Targets.{resource_seen}
use Rattle.serde_json.specs.View.{items_of, view}
use Rattle.serde_json.specs.Written.{items_have_float}
use Rattle.object_pages.proofs.list.item_values.Goals as goal

pub object_page-requires : goal.object_page-requires
object_page-requires c =
    let i = c.loop-stored.stored-index in
    let within : i < length c.args.objects.now = omega arith in
    subst (λ (x : Stored). Fits c.args.of.table.now.rows x.object.fields) (sym c.stored-item.is) (c.requires i c.stored-item.result within)

pub loop-stored-preserved : goal.loop-stored-preserved
loop-stored-preserved c =
    let r = resource_seen c.args.of in
    let objects = c.args.objects.now in
    let i = c.loop-stored.stored-index in
    let x = c.stored-item.result in
    let items = c.loop-stored.values.items in
    let tree = view c.in_ok-value.value in
    let within : i < length objects = omega arith in
    let next : take (i + 1) objects ≡ take i objects ++ x ∷ [] = take_more objects i x within ∙ ap (λ (y : Stored). take i objects ++ y ∷ []) (sym c.stored-item.is) in
    let trees : map view c.push.new.self.items ≡ map view items ++ tree ∷ [] = ap (map view) c.in_ok-push.ensures.items ∙ map-append view items (c.in_ok-value.value ∷ []) in
    record {
      shown = subst (λ ts. AreShown r (take (i + 1) objects) ts) (sym trees)
          (subst (λ os. AreShown r os (map view items ++ tree ∷ [])) (sym next) (shown_push r (take i objects) (map view items) x tree c.loop-stored.invariant.shown c.in_ok-value.ensures.shown));
      no_float = ap (λ ts. items_have_float (items_of ts)) trees ∙ plain_push (map view items) tree c.loop-stored.invariant.no_float c.in_ok-value.ensures.no_float;
    }
