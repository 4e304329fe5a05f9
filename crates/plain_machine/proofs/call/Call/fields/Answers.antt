use Rattle.std.proofs.Common.{◌∙◌, ℕ, List, ap}
use Rattle.request_body.specs.Places.{place_seen}
use Rattle.serde_json.specs.View.{view as tree_of}
use Rattle.plain_machine.proofs.PassLemmas.{field_refused, fields_passed}
use Rattle.plain_machine.specs.Refusals.{bad_field_answer}
use Rattle.plain_machine.proofs.call.Call.fields.Goals as goal

pub returns-in-Ok-clause-passed : goal.returns-in-Ok-clause-passed
returns-in-Ok-clause-passed c =
    fields_passed c.args.self.now.state.now.state c.args.self.now.request.now (place_seen c.args.self.now.place) (tree_of c.args.tree.now) _ c.requires.passed
    c.requires.body.has.1 c.in-Ok.ensures.ok.reads

pub returns-in_ok-bad_field-in-Err-Bad-clause-refused : goal.returns-in_ok-bad_field-in-Err-Bad-clause-refused
returns-in_ok-bad_field-in-Err-Bad-clause-refused c =
    let fault = rw c.in-Err-Bad.field-0-is at c.in-Err-Bad.ensures.bad in
    field_refused c.args.self.now.state.now.state c.args.self.now.request.now (place_seen c.args.self.now.place) _ (tree_of c.args.tree.now) c.in-Err-Bad.path c.in-Err-Bad.cause
    c.requires.passed c.requires.gives c.requires.body.has.1 fault
    (c.in_ok-bad_field-in-Err-Bad.ensures ∙ ap (λ (path : List (List ℕ)). bad_field_answer path c.in-Err-Bad.cause) c.items.ensures)
