use Rattle.std.proofs.Common.{◌≡◌, ◌∙◌, sym}
use Rattle.http_front.specs.declared.request.Verb.TheVariants.{Post, Put}
use Rattle.request_body.specs.Places.{place_seen}
use Rattle.plain_machine.proofs.KeyLemmas.{changes_object, refuted, unchanged_object}
use Rattle.plain_machine.proofs.PassLemmas.{no_room_passed}
use Rattle.plain_machine.proofs.write.replace.Goals as goal

pub returns-then-same-clause-passed : goal.returns-then-same-clause-passed
returns-then-same-clause-passed c =
    unchanged_object c.args.call.now.state.now.state c.args.call.now.request.now (place_seen c.args.call.now.place) _
    c.in_ok-fields.ensures.ok.0 c.in_ok-fields.ensures.ok.1 c.in_ok-fields.ensures.ok.2 c.objects-objects.ensures.order _ _
    (no_room_passed c.args.call.now.state.now.state c.args.call.now.request.now (place_seen c.args.call.now.place) c.in_ok-complete.ensures.passed
    (λ h. let e : Put ≡ Post = sym c.requires.put ∙ h in cc))
    c.requires.put c.in_ok-old.ensures.ok c.in_ok-fields.ensures.ok.3 (c.same.ensures.equal.0 c.if-same.true)

pub next_revision-requires-clause-passed : goal.next_revision-requires-clause-passed
next_revision-requires-clause-passed c =
    no_room_passed c.args.call.now.state.now.state c.args.call.now.request.now (place_seen c.args.call.now.place) c.in_ok-complete.ensures.passed
    (λ h. let e : Put ≡ Post = sym c.requires.put ∙ h in cc)

pub next_revision-requires-clause-changes : goal.next_revision-requires-clause-changes
next_revision-requires-clause-changes c = (
  c.in_ok-fields.ensures.ok.0,
  c.in_ok-fields.ensures.ok.1,
  changes_object c.args.call.now.state.now.state c.args.call.now.request.now (place_seen c.args.call.now.place) _
      c.in_ok-fields.ensures.ok.0 c.in_ok-fields.ensures.ok.1 c.in_ok-fields.ensures.ok.2 _ _ c.requires.put c.in_ok-old.ensures.ok
      c.in_ok-fields.ensures.ok.3 (refuted _ _ c.same.ensures.equal c.if-same.false),
)
