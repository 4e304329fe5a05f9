use Rattle.std.proofs.Common.{◌≡◌, false, IfSome}
use Rattle.std.specs.Prelude.{option_map}
use Rattle.serde_json.specs.View.{view as tree_of}
use Rattle.serde_json.specs.Written.{has_float}
use Rattle.discovery.specs.Groups.{group_among}
use Rattle.discovery.proofs.FloatLemmas.{on_ok, on_some, group_page_no_float}
use Rattle.discovery.proofs.groups.group.Goals as goal

pub returns-clause-no_float : goal.returns-clause-no_float
returns-clause-no_float c =
    on_ok c.group_among.result (λ o. option_map tree_of o ≡ group_among c.served.result.now c.args.name.now) (λ o. IfSome o (λ v. has_float (tree_of v) ≡ false))
    (λ o is. on_some tree_of o (group_among c.served.result.now c.args.name.now) is (group_page_no_float c.served.result.now c.args.name.now)) c.group_among.ensures
