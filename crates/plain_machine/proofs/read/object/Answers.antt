use Rattle.std.proofs.Common.{ap}
use Rattle.object_journal.specs.declared.key.Key.{Key}
use Rattle.request_body.specs.Places.{place_seen}
use Rattle.plain_machine.proofs.PageLemmas.{get_free}
use Rattle.plain_machine.proofs.read.object.Goals as goal

pub shown-requires : goal.shown-requires
shown-requires c =
    c.requires.fits _ _ c.in_ok-object.ensures.ok (ap (λ (k : Key). k.group) c.in_ok-key.ensures.2)
    (ap (λ (k : Key). k.resource) c.in_ok-key.ensures.2)

pub returns-clause-passed : goal.returns-clause-passed
returns-clause-passed c =
    get_free c.args.call.now.state.now.state c.args.call.now.request.now (place_seen c.args.call.now.place) c.requires.get
    c.in_ok-object.ensures.passed
