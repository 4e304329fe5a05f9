use Rattle.std.proofs.Common.{ℕ, ◌≡◌, ◌++◌, Option, Some, None, sym, subst, ap, ◌∙◌, inr}
use Rattle.schemas.specs.Dated.{Dated}
use Rattle.schemas.specs.Rules.{date_checks, gate_checks, api_checks, field_checks, checks, FindsFault, release_check}
use Rattle.schemas.specs.declared.broken.Broken.{Broken}
use Rattle.history_rules.proofs.FaultLemmas.{fault_in, fault_after, unbroken_both, if_ok}
use Rattle.history_rules.proofs.accept.first_fault.Goals as goal

pub returns-in-Ok-Some : goal.returns-in-Ok-Some
returns-in-Ok-Some c =
    let gates : c.args.h.now.gates ≡ c.items.result.now = sym (c.items.ensures ∙ ap (λ (d : Dated). d.gates) c.h.view_is) in
    let found : FindsFault c.args.h.now gate_checks (Some c.in-Ok-Some.fault) = subst (FindsFault c.args.h.now gate_checks) c.in-Ok-Some.field-0-is (c.in-Ok-Some.ensures c.args.h.now gates) in
    inr (
      (λ n top. top.1 c.in-Some.ensures.some.0),
      fault_after c.args.h.now date_checks (gate_checks ++ api_checks ++ field_checks) _ _ _ c.in_default-first_late_entry.ensures
          (fault_in c.args.h.now gate_checks (api_checks ++ field_checks) _ _ _ found),
    )

pub returns-in-Ok-Some-first_api_fault : goal.returns-in-Ok-Some-first_api_fault
returns-in-Ok-Some-first_api_fault c =
    let gates : c.args.h.now.gates ≡ c.items.result.now = sym (c.items.ensures ∙ ap (λ (d : Dated). d.gates) c.h.view_is) in
    let apis : c.args.h.now.apis ≡ c.items-2.result.now = sym (c.items-2.ensures ∙ ap (λ (d : Dated). d.apis) c.h.view_is) in
    let none : FindsFault c.args.h.now gate_checks None = subst (FindsFault c.args.h.now gate_checks) c.in-Ok-None.field-0-is (c.in-Ok-None.ensures c.args.h.now gates) in
    let found : FindsFault c.args.h.now api_checks (Some c.in-Ok-Some-first_api_fault.fault) = subst (FindsFault c.args.h.now api_checks) c.in-Ok-Some-first_api_fault.field-0-is (c.in-Ok-Some-first_api_fault.ensures c.args.h.now c.in-Some.ensures.some.2 apis) in
    inr (
      (λ n top. top.1 c.in-Some.ensures.some.0),
      fault_after c.args.h.now date_checks (gate_checks ++ api_checks ++ field_checks) _ _ _ c.in_default-first_late_entry.ensures
          (fault_after c.args.h.now gate_checks (api_checks ++ field_checks) _ _ _ none (fault_in c.args.h.now api_checks field_checks _ _ _ found)),
    )

-- what is found after tests that find none is found by all
found_after : (h : Dated) (found : Option Broken) → ((k : ℕ) → ¬ release_check.IsBrokenAt h k) → FindsFault h date_checks None → FindsFault h gate_checks None → FindsFault h api_checks None → FindsFault h field_checks found → FindsFault h checks found
found_after h None top dates gates apis fields = (top, unbroken_both h date_checks (gate_checks ++ api_checks ++ field_checks) dates (unbroken_both h gate_checks (api_checks ++ field_checks) gates (unbroken_both h api_checks field_checks apis fields)))
found_after h (Some b) top dates gates apis fields = inr (
  top,
  fault_after h date_checks (gate_checks ++ api_checks ++ field_checks) b.rule b.array b.index dates
      (fault_after h gate_checks (api_checks ++ field_checks) b.rule b.array b.index gates (fault_after h api_checks field_checks b.rule b.array b.index apis fields)),
)

pub returns : goal.returns
returns c =
    let gates : c.args.h.now.gates ≡ c.items.result.now = sym (c.items.ensures ∙ ap (λ (d : Dated). d.gates) c.h.view_is) in
    let apis : c.args.h.now.apis ≡ c.items-2.result.now = sym (c.items-2.ensures ∙ ap (λ (d : Dated). d.apis) c.h.view_is) in
    let no_gate : FindsFault c.args.h.now gate_checks None = subst (FindsFault c.args.h.now gate_checks) c.in-Ok-None.field-0-is (c.in-Ok-None.ensures c.args.h.now gates) in
    let no_api : FindsFault c.args.h.now api_checks None = subst (FindsFault c.args.h.now api_checks) c.in-Ok-None-first_api_fault.field-0-is (c.in-Ok-None-first_api_fault.ensures c.args.h.now c.in-Some.ensures.some.2 apis) in
    if_ok (FindsFault c.args.h.now field_checks) (FindsFault c.args.h.now checks) c.first_field_fault.result
    (λ found. found_after c.args.h.now found (λ n top. top.1 c.in-Some.ensures.some.0) c.in_default-first_late_entry.ensures no_gate no_api) c.first_field_fault.ensures
