use Rattle.std.proofs.Common.{map, sym}
use Rattle.serde_json.specs.View.{view as tree_of}
use Rattle.discovery.proofs.PageLemmas.{none_served, some_served}
use Rattle.discovery.proofs.resources.resources_among.Goals as goal

pub returns-in_default : goal.returns-in_default
returns-in_default c = none_served c.args.served.now c.args.group.now c.args.version.now (sym c.in_default.ensures)

pub returns : goal.returns
returns c =
    some_served c.args.served.now c.args.group.now c.args.version.now c.in-Some.first.now (map tree_of c.in_ok-resources.resources.items) (tree_of c.in_ok-value.value) (sym c.in-Some.ensures) c.in_ok-resources.ensures
    c.in_ok-value.ensures
