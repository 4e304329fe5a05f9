use Rattle.std.proofs.Common.{◌≡◌, ◌∙◌, subst, sym}
use Rattle.http_front.specs.declared.request.Verb.{Verb}
use Rattle.http_front.specs.declared.request.Verb.TheVariants.{Delete, Post}
use Rattle.request_body.specs.Places.{place_seen}
use Rattle.request_body.specs.Writes.{GivesFields}
use Rattle.plain_machine.proofs.PassLemmas.{no_required_passed, no_room_passed}
use Rattle.plain_machine.proofs.write.remove.Goals as goal

pub next_revision-requires-clause-passed : goal.next_revision-requires-clause-passed
next_revision-requires-clause-passed c =
    no_room_passed c.args.call.now.state.now.state c.args.call.now.request.now (place_seen c.args.call.now.place)
    (no_required_passed c.args.call.now.state.now.state c.args.call.now.request.now (place_seen c.args.call.now.place) c.in_ok-meant.ensures.passed
    (λ h. subst (λ (verb : Verb). GivesFields verb) c.requires.delete h))
    (λ h. let e : Delete ≡ Post = sym c.requires.delete ∙ h in cc)
