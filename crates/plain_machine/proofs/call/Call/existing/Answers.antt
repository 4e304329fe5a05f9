use Rattle.std.proofs.Common.{ℕ, List, ◌∙◌, ap}
use Rattle.request_body.specs.Places.{place_seen}
use Rattle.plain_machine.proofs.KeyLemmas.{existing_passed, missing_object}
use Rattle.plain_machine.specs.Refusals.{no_object_answer}
use Rattle.plain_machine.proofs.call.Call.existing.Goals as goal

pub returns-in-Some-clause-passed : goal.returns-in-Some-clause-passed
returns-in-Some-clause-passed c =
    existing_passed c.args.self.now.state.now.state c.args.self.now.request.now (place_seen c.args.self.now.place) c.args.key.now c.requires.key.0 c.requires.key.1 c.requires.key.2 _ c.requires.passed c.requires.own
    c.in-Some.ensures

pub returns-in_ok-no_object-in-None-clause-refused : goal.returns-in_ok-no_object-in-None-clause-refused
returns-in_ok-no_object-in-None-clause-refused c =
    missing_object c.args.self.now.state.now.state c.args.self.now.request.now (place_seen c.args.self.now.place) c.args.key.now c.requires.key.0 c.requires.key.1 c.requires.key.2 _ c.requires.passed c.requires.own
    c.in-None.ensures
    (c.in_ok-no_object-in-None.ensures ∙ ap (λ (n : List ℕ). no_object_answer (place_seen c.args.self.now.place).of n) c.as_str.ensures)
