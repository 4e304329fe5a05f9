use Rattle.std.proofs.Common.{◌<◌, ◌≤◌, arith}
use Rattle.object_journal.specs.Journal.{last_revision}
use Rattle.request_body.specs.Places.{place_seen}
use Rattle.plain_machine.proofs.PassLemmas.{ended_refused, revision_passed}
use Rattle.plain_machine.proofs.call.Call.next_revision.Goals as goal

pub returns-in_ok-ended-clause-refused : goal.returns-in_ok-ended-clause-refused
returns-in_ok-ended-clause-refused c =
    let last : last_revision ≤ c.args.self.now.state.now.state.revision = omega arith in
    ended_refused c.args.self.now.state.now.state c.args.self.now.request.now (place_seen c.args.self.now.place) _ c.requires.changes.0 c.requires.passed
    c.requires.changes.1 c.requires.changes.2 last c.in_ok-ended.ensures

pub returns-else-revision-ge-LAST_REVISION-clause-passed : goal.returns-else-revision-ge-LAST_REVISION-clause-passed
returns-else-revision-ge-LAST_REVISION-clause-passed c =
    let more : c.args.self.now.state.now.state.revision < last_revision = omega arith in
    revision_passed c.args.self.now.state.now.state c.args.self.now.request.now (place_seen c.args.self.now.place) c.requires.passed more
