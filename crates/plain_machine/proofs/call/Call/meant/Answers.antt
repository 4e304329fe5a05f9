use Rattle.std.proofs.Common.{ℕ, List, ◌∙◌, ap}
use Rattle.request_body.specs.Places.{place_seen}
use Rattle.serde_json.specs.View.{view as tree_of}
use Rattle.plain_machine.proofs.KeyLemmas.{meant_object, other_object, refuted}
use Rattle.plain_machine.proofs.PassLemmas.{bare_meant_passed}
use Rattle.plain_machine.specs.Refusals.{conflict_answer}
use Rattle.plain_machine.proofs.call.Call.meant.Goals as goal

pub returns-in_ok-conflict-in-Some-clause-refused : goal.returns-in_ok-conflict-in-Some-clause-refused
returns-in_ok-conflict-in-Some-clause-refused c =
    let body = rw c.in-Some.is at c.requires.body in
    other_object c.args.self.now.state.now.state c.args.self.now.request.now (place_seen c.args.self.now.place) c.args.key.now c.requires.key.0 c.requires.key.1 c.requires.key.2 _ (tree_of c.in-Some.tree.now) c.args.object.now
    c.requires.passed c.requires.holds body.has (c.is_meant_for_another.ensures.0 c.if-is_meant_for_another.true)
    (c.in_ok-conflict-in-Some.ensures ∙ ap (λ (n : List ℕ). conflict_answer (place_seen c.args.self.now.place).of n) c.as_str.ensures)

pub returns-else-is_meant_for_another-clause-passed : goal.returns-else-is_meant_for_another-clause-passed
returns-else-is_meant_for_another-clause-passed c =
    let body = rw c.in-Some.is at c.requires.body in
    meant_object c.args.self.now.state.now.state c.args.self.now.request.now (place_seen c.args.self.now.place) c.args.key.now c.requires.key.0 c.requires.key.1 c.requires.key.2 c.objects-objects.ensures.order
    (tree_of c.in-Some.tree.now) c.args.object.now c.requires.passed c.requires.holds body.has
    (refuted _ _ c.is_meant_for_another.ensures c.if-is_meant_for_another.false)

pub returns-in-None-clause-passed : goal.returns-in-None-clause-passed
returns-in-None-clause-passed c =
    let bare = rw c.in-None.is at c.requires.body in
    bare_meant_passed c.args.self.now.state.now.state c.args.self.now.request.now (place_seen c.args.self.now.place) c.requires.passed bare
