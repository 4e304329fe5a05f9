use Rattle.std.proofs.Common.{◌≡◌, ◌∙◌, rules, tests}
use Rattle.std.specs.List.{list_any, list_all}
use Rattle.std.specs.Str.{bytes_eq}
use Rattle.std.proofs.lemmas.Iterator.{YieldsList-from_slice}
use Rattle.std.proofs.lemmas.Iterator.Search.{all_from_yields_List}
use Rattle.words.proofs.ValueLemmas.{named_is}
use Rattle.words.proofs.values.are_named.Goals as goal

pub returns : goal.returns
returns c =
    let names = c.args.names.now in
    let given = c.args.settings.now in
    let over_given : c.all.result ≡ list_all (λ s. list_any (λ name. bytes_eq s.name.now name.now) names) given =
    all_from_yields_List (λ s. list_any (λ name. bytes_eq s.name.now name.now) names) _ _ c.all.result c.all.ensures.ran (YieldsList-from_slice given cc) (λ x b q k. search (rules, tests)) in
    over_given ∙ named_is names given
