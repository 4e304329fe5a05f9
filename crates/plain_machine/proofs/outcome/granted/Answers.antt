use Rattle.std.proofs.Common.{sym}
use Rattle.request_body.specs.Places.{place_seen}
use Rattle.request_target.specs.Targets.{asked}
use Rattle.plain_machine.proofs.OutcomeLemmas.{granted_to, refused_to, sound_to}
use Rattle.plain_machine.proofs.PlaceLemmas.{fit_at, known_at}
use Rattle.plain_machine.proofs.outcome.granted.Goals as goal

pub granted_at-requires-clause-fits : goal.granted_at-requires-clause-fits
granted_at-requires-clause-fits c =
    fit_at c.args.machine.now.view.versions c.args.state.now.state.objects (place_seen c.in-Some.place).of c.requires.fits
    (known_at c.args.machine.now.view.versions (asked c.args.target) (place_seen c.in-Some.place) c.requires.told c.in-Some.ensures)

pub returns-clause-granted : goal.returns-clause-granted
returns-clause-granted c =
    granted_to c.args.machine.now c.args.state.now.state c.args.request.now (asked c.args.target) (place_seen c.in-Some.place)
    (record { head = c.in_ok-passes_head.ensures.ok; placed = sym c.in-Some.ensures }) c.granted_at.result c.granted_at.ensures.granted
    c.granted_at.ensures.passed

pub returns-clause-refused : goal.returns-clause-refused
returns-clause-refused c =
    refused_to c.args.machine.now c.args.state.now.state c.args.request.now (asked c.args.target) (place_seen c.in-Some.place)
    (record { head = c.in_ok-passes_head.ensures.ok; placed = sym c.in-Some.ensures }) c.granted_at.result c.granted_at.ensures.refused

pub returns-clause-sound : goal.returns-clause-sound
returns-clause-sound c =
    sound_to c.args.machine.now.view.versions _ c.granted_at.result c.versions_spell_alike.ensures
    (known_at c.args.machine.now.view.versions (asked c.args.target) (place_seen c.in-Some.place) c.requires.told c.in-Some.ensures)
    c.granted_at.ensures.sound
