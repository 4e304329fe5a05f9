use Rattle.std.proofs.Common.{◌∙◌}
use Rattle.request_body.specs.Places.{place_seen}
use Rattle.plain_machine.proofs.KeyLemmas.{complete_object, lacking_object}
use Rattle.plain_machine.specs.Refusals.{missing_answer}
use Rattle.plain_machine.proofs.call.Call.complete.Goals as goal

pub returns-in_ok-missing-in-Some-clause-refused : goal.returns-in_ok-missing-in-Some-clause-refused
returns-in_ok-missing-in-Some-clause-refused c =
    lacking_object c.args.self.now.state.now.state c.args.self.now.request.now (place_seen c.args.self.now.place) c.args.key.now c.requires.given.0 c.requires.given.1 c.requires.given.2 _ c.args.fields.now c.in-Some.row.now
    c.requires.passed c.requires.gives c.requires.given.3 c.in-Some.ensures.some
    (c.in_ok-missing-in-Some.ensures ∙ (λ i. missing_answer (place_seen c.args.self.now.place).of (c.as_str.ensures i) (c.items.ensures i)))

pub returns-in-None-clause-passed : goal.returns-in-None-clause-passed
returns-in-None-clause-passed c =
    complete_object c.args.self.now.state.now.state c.args.self.now.request.now (place_seen c.args.self.now.place) c.args.key.now c.requires.given.0 c.requires.given.1 c.requires.given.2 c.objects-objects.ensures.order
    c.args.fields.now c.requires.passed c.requires.given.3 c.in-None.ensures.none
