use Rattle.request_body.specs.Places.{place_seen}
use Rattle.plain_machine.proofs.PassLemmas.{members_passed}
use Rattle.plain_machine.proofs.call.Call.body.Goals as goal

pub returns-clause-passed : goal.returns-clause-passed
returns-clause-passed c =
    members_passed c.args.self.now.state.now.state c.args.self.now.request.now (place_seen c.args.self.now.place) _ c.in_ok-tree.ensures.ok c.in_ok-members.ensures.ok
