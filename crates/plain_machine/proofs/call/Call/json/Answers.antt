use Rattle.std.proofs.Common.{ℕ, List, subst}
use Rattle.conversion.specs.Whole.{IsTextOf}
use Rattle.request_body.specs.Places.{place_seen}
use Rattle.serde_json.specs.Data.{Data}
use Rattle.plain_machine.proofs.PassLemmas.{body_refused}
use Rattle.plain_machine.proofs.call.Call.json.Goals as goal

pub returns-in_ok-bad_body-in-None-clause-refused : goal.returns-in_ok-bad_body-in-None-clause-refused
returns-in_ok-bad_body-in-None-clause-refused c =
    let none = rw c.in-None.is at c.in_ok-tree.ensures.none in
    body_refused c.args.self.now.state.now.state c.args.self.now.request.now (place_seen c.args.self.now.place) _ c.requires
    (subst (λ (bytes : List ℕ). (tree : Data) → ¬ IsTextOf bytes tree) c.bytes.ensures none) c.in_ok-bad_body-in-None.ensures
