use Rattle.std.proofs.Common.{List, option_map, Bor, Vec, Global, sym, ◌∙◌, ap}
use Rattle.serde_json.specs.Data.{array}
use Rattle.serde_json.specs.View.{view, items_view}
use Rattle.serde_json.specs.declared.value.Value.{Value}
use Rattle.conversion.proofs.ValueLemmas.{array_so, none_listed}
use Rattle.conversion.proofs.value.list_of.Goals as goal

pub returns-in-Some-clause-none : goal.returns-in-Some-clause-none
returns-in-Some-clause-none c =
    let is = array_so (view c.args.json.now) (items_view c.in-Some.items.now.items) (sym c.as_array.ensures ∙ ap (λ o. option_map (λ (v : Bor (Vec Value Global)). items_view v.now.items) o) c.in-Some.is) in
    none_listed c.texts_of.result (view c.args.json.now) c.as_slice.result.now (is ∙ ap (λ (vs : List Value). array (items_view vs)) (sym c.as_slice.ensures.value)) c.texts_of.ensures
