use Rattle.std.proofs.Common.{subst}
use Rattle.http_front.specs.declared.request.Verb.{Verb}
use Rattle.request_body.specs.Places.{place_seen}
use Rattle.request_body.specs.Writes.{GivesFields}
use Rattle.plain_machine.proofs.PassLemmas.{no_fields_passed}
use Rattle.plain_machine.proofs.call.Call.conditions.Goals as goal

pub returns-clause-passed : goal.returns-clause-passed
returns-clause-passed c =
    no_fields_passed c.args.self.now.state.now.state c.args.self.now.request.now (place_seen c.args.self.now.place) c.in_ok-tree.ensures.passed
    (λ h. subst (λ (verb : Verb). GivesFields verb) c.requires h)
