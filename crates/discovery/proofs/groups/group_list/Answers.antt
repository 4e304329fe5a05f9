use Rattle.std.proofs.Common.{◌≡◌, sym, ◌∙◌, ap, subst}
use Rattle.serde_json.specs.View.{view as tree_of}
use Rattle.serde_json.specs.Written.{has_float}
use Rattle.discovery.specs.Groups.{list_tree, group_trees, group_list_page}
use Rattle.discovery.specs.Order.{GroupsRise}
use Rattle.discovery.proofs.FloatLemmas.{list_no_float}
use Rattle.discovery.proofs.ServedLemmas.{groups_rise}
use Rattle.discovery.proofs.groups.group_list.Goals as goal

pub group_values-requires : goal.group_values-requires
group_values-requires c = subst GroupsRise (sym c.served.ensures.value) (groups_rise c.args.view.now.versions c.served.ensures.order)

pub returns-clause-no_float : goal.returns-clause-no_float
returns-clause-no_float c =
    let page : tree_of c.in_ok-value.value ≡ group_list_page c.args.view.now = c.in_ok-value.ensures ∙ ap list_tree (c.in_ok-groups.ensures ∙ ap group_trees c.served.ensures.value) in
    ap has_float page ∙ list_no_float c.args.view.now
