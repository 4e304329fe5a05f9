use Rattle.std.proofs.Common.{◌≡◌, ◌↔◌, Bool, Some, None, Any, ap, subst, ◌∙◌}
use Rattle.gate_flags.specs.Values.{AreInOrder}
use Rattle.gate_flags.proofs.LookupLemmas.{value_of_known, value_of_gone}
use Rattle.gate_flags.proofs.values.GateValues.value.Goals as goal

pub returns-in-Some : goal.returns-in-Some
returns-in-Some c =
    value_of_known c.args.self.now c.args.name.now c.in-Some.value (subst AreInOrder c.self.view_is c.self.invariant)
    (subst (λ rows. (v : Bool) → Some c.in-Some.value ≡ Some v ↔ Any (λ r. (r.name ≡ c.args.name.now) × (r.value ≡ v)) rows) (c.deref.ensures.value ∙ ap (λ g. g.rows) c.self.view_is) c.in-Some.ensures)

pub returns-in-None : goal.returns-in-None
returns-in-None c =
    value_of_gone c.args.self.now c.args.name.now c.value_of_removed.result
    (subst (λ rows. (v : Bool) → None ≡ Some v ↔ Any (λ r. (r.name ≡ c.args.name.now) × (r.value ≡ v)) rows) (c.deref.ensures.value ∙ ap (λ g. g.rows) c.self.view_is) c.in-None.ensures)
    (subst (λ gone. (v : Bool) → c.value_of_removed.result ≡ Some v ↔ Any (λ r. (r.name ≡ c.args.name.now) × (r.value ≡ v)) gone) (c.deref-in-None.ensures.value ∙ ap (λ g. g.removed) c.self.view_is) c.value_of_removed.ensures)
