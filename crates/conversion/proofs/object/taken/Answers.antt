use Rattle.std.proofs.Common.{Some, ◌∙◌}
use Rattle.serde_json.specs.View.{view}
use Rattle.conversion.proofs.StepLemmas.{step_inner}
use Rattle.conversion.proofs.ObjectLemmas.{get_member-members_in}
use Rattle.conversion.proofs.object.taken.Goals as goal

pub returns : goal.returns
returns c =
    step_inner c.args.name.now (Some (view c.args.json)) c.members_of-members.result.entries c.remove.result c.members_of-members.ensures c.remove.ensures.value
    ∙ get_member-members_in c.args.name.now (view c.args.json)
