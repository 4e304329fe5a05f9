use Rattle.std.proofs.Common.{ℕ, List, ◌∙◌, ap}
use Rattle.request_body.specs.Places.{place_seen}
use Rattle.plain_machine.proofs.KeyLemmas.{absent_object, present_object}
use Rattle.plain_machine.specs.Refusals.{exists_answer}
use Rattle.plain_machine.proofs.call.Call.absent.Goals as goal

pub returns-in_ok-exists-in-Some-clause-refused : goal.returns-in_ok-exists-in-Some-clause-refused
returns-in_ok-exists-in-Some-clause-refused c =
    present_object c.args.self.now.state.now.state c.args.self.now.request.now (place_seen c.args.self.now.place) c.args.key.now c.requires.key.0 c.requires.key.1 c.requires.key.2 _ _ c.requires.passed c.requires.own
    c.in-Some.ensures
    (c.in_ok-exists-in-Some.ensures ∙ ap (λ (n : List ℕ). exists_answer (place_seen c.args.self.now.place).of n) c.as_str.ensures)

pub returns-in-None-clause-passed : goal.returns-in-None-clause-passed
returns-in-None-clause-passed c =
    absent_object c.args.self.now.state.now.state c.args.self.now.request.now (place_seen c.args.self.now.place) c.args.key.now c.requires.key.0 c.requires.key.1 c.requires.key.2 c.requires.passed c.requires.post
    c.requires.own c.in-None.ensures
