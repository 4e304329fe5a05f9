use Rattle.std.proofs.Common.{map, sym, ◌∙◌, ap}
use Rattle.serde_json.specs.View.{view as tree_of}
use Rattle.discovery.specs.Groups.{single_tree}
use Rattle.discovery.proofs.PageLemmas.{none_among, one_among}
use Rattle.discovery.proofs.groups.group_among.Goals as goal

pub returns-in_default : goal.returns-in_default
returns-in_default c = none_among c.args.served.now c.args.name.now (sym c.in_default.ensures) (sym c.if-is_empty.ensures)

pub returns : goal.returns
returns c =
    let first = c.in-Some.first.now in
    one_among c.args.served.now c.args.name.now first (tree_of c.in_ok-value.value) (sym c.in-Some.ensures) (sym c.if-is_empty.ensures)
    (c.in_ok-value.ensures ∙ ap (single_tree first.group) (ap (map (λ w. w.now)) c.as_slice.ensures.value ∙ c.in_ok-versions.ensures))
