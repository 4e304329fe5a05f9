use Rattle.std.proofs.Common.{◌≡◌, false, IfSome}
use Rattle.std.specs.Prelude.{option_map}
use Rattle.serde_json.specs.View.{view as tree_of}
use Rattle.serde_json.specs.Written.{has_float}
use Rattle.discovery.specs.Resources.{resources_among}
use Rattle.discovery.proofs.FloatLemmas.{on_ok, on_some, resources_page_no_float}
use Rattle.discovery.proofs.resources.resource_list.Goals as goal

pub returns-clause-no_float : goal.returns-clause-no_float
returns-clause-no_float c =
    on_ok c.resources_among.result (λ o. option_map tree_of o ≡ resources_among c.served.result.now c.args.group.now c.args.version.now) (λ o. IfSome o (λ v. has_float (tree_of v) ≡ false))
    (λ o is. on_some tree_of o (resources_among c.served.result.now c.args.group.now c.args.version.now) is (resources_page_no_float c.served.result.now c.args.group.now c.args.version.now)) c.resources_among.ensures
