use Rattle.std.proofs.Common.{◌<◌, ◌≤◌, arith}
use Rattle.object_journal.specs.Journal.{most_keys}
use Rattle.request_body.specs.Places.{place_seen}
use Rattle.plain_machine.proofs.PassLemmas.{full_refused, room_passed}
use Rattle.plain_machine.proofs.call.Call.room.Goals as goal

pub returns-in_ok-full-clause-refused : goal.returns-in_ok-full-clause-refused
returns-in_ok-full-clause-refused c =
    let many : most_keys ≤ c.args.self.now.state.now.state.records = omega arith in
    full_refused c.args.self.now.state.now.state c.args.self.now.request.now (place_seen c.args.self.now.place) _ c.requires.passed c.requires.post many c.in_ok-full.ensures

pub returns-else-records-ge-MOST_RECORDS-clause-passed : goal.returns-else-records-ge-MOST_RECORDS-clause-passed
returns-else-records-ge-MOST_RECORDS-clause-passed c =
    let room : c.args.self.now.state.now.state.records < most_keys = omega arith in
    room_passed c.args.self.now.state.now.state c.args.self.now.request.now (place_seen c.args.self.now.place) c.requires.passed room
