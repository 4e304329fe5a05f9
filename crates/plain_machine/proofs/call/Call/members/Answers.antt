use Rattle.request_body.specs.Places.{place_seen}
use Rattle.serde_json.specs.View.{view as tree_of}
use Rattle.plain_machine.proofs.PassLemmas.{member_refused}
use Rattle.plain_machine.proofs.call.Call.members.Goals as goal

pub returns-in_ok-bad_member-in-Some-clause-refused : goal.returns-in_ok-bad_member-in-Some-clause-refused
returns-in_ok-bad_member-in-Some-clause-refused c =
    member_refused c.args.self.now.state.now.state c.args.self.now.request.now (place_seen c.args.self.now.place) _ (tree_of c.args.tree.now) c.in-Some.member c.requires
    c.in-Some.ensures.some c.in_ok-bad_member-in-Some.ensures
