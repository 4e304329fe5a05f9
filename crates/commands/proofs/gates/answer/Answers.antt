-- An accepted history's entries of one gate rise in date, and the release and the text that were read are those of the listing.
use Rattle.std.proofs.Common.{◌≡◌, ℕ, List, [], Option, inl, inr, unwrap_or, string_bytes, sym, subst, ap, ◌∙◌, rules, arith}
use Rattle.flag_text.specs.Pieces.{pieces}
use Rattle.gate_flags.specs.Flags.{IsFeatureText, IsTextFault}
use Rattle.gate_flags.specs.Values.{Gates, AreGateValues}
use Rattle.gate_flags.specs.declared.fault.GateCause.{GateCause}
use Rattle.gate_flags.specs.declared.fault.GateFault.TheVariants.{At}
use Rattle.gate_spec.specs.Gates.{RisesInDate, cutoff}
use Rattle.gate_spec.specs.declared.entry.GateEntry.{GateEntry}
use Rattle.schemas.specs.Dated.{Dated}
use Rattle.schemas.specs.Rules.{first_of as first_release, last_of as last_release}
use Rattle.schemas.proofs.LawLemmas.{gates_rise}
use Rattle.answer_lines.specs.Options.{gate_line as gate_fault_line}
use Rattle.release_choice.specs.Choice.{IsEmulated, text_of}
use Rattle.commands.specs.Gates.{IsGateListing, gate_lines}
use Rattle.commands.specs.declared.status.Status.{Status}
use Rattle.commands.specs.declared.status.Status.TheVariants as status
use Rattle.commands.proofs.gates.answer.Goals as goal

module _ (emulated features : Option (List ℕ)) (h : Dated) (e : ℕ) (entries : List GateEntry) (given : List ℕ) (same_gates : entries ≡ h.gates)
    (same_text : given ≡ unwrap_or features []) (is : IsEmulated (first_release h) (last_release h) emulated e) where
  moved : (P : List GateEntry → List ℕ → Type 0) → P entries given → P h.gates (unwrap_or features [])
  moved P p = subst (λ t. P h.gates t) same_text (subst (λ xs. P xs given) same_gates p)

  listed : (values : Gates) (s : Status) (text : List ℕ) → IsFeatureText (cutoff entries e) given → AreGateValues (cutoff entries e) (pieces given) values
      → s ≡ status.Ok → text ≡ gate_lines values.rows → IsGateListing emulated features h s text
  listed values s text valid valued ok written =
      inr (e, is, inl (ok, (values, moved (λ xs t. IsFeatureText (cutoff xs e) t) valid, moved (λ xs t. AreGateValues (cutoff xs e) (pieces t) values) valued, written)))

  refused : (place : ℕ) (cause : GateCause) (s : Status) (text : List ℕ) → IsTextFault entries e given (At place cause) → s ≡ status.Flags
      → text ≡ gate_fault_line place cause → IsGateListing emulated features h s text
  refused place cause s text fault flags written = inr (e, is, inr (flags, (place, cause, moved (λ xs t. IsTextFault xs e t (At place cause)) fault, written)))

pub gate_values-requires : goal.gate_values-requires
gate_values-requires c =
    let same : c.items-entries.result.now ≡ c.args.accepted.now.gates = c.items-entries.ensures ∙ ap (λ (h : Dated). h.gates) (c.behind-accepted.view_is ∙ c.history.ensures.same) in
    subst RisesInDate (sym same) (gates_rise c.args.accepted.now c.history.ensures.accepted)

pub returns-in_ok-text-in-Ok-gate_values : goal.returns-in_ok-text-in-Ok-gate_values
returns-in_ok-text-in-Ok-gate_values c =
    let same : c.items-entries.result.now ≡ c.args.accepted.now.gates = c.items-entries.ensures ∙ ap (λ (h : Dated). h.gates) (c.behind-accepted.view_is ∙ c.history.ensures.same) in
    let same_text : c.as_bytes.result.now ≡ unwrap_or (text_of c.args.features) [] = c.as_bytes.ensures.value ∙ c.text_or_empty-features.ensures in
    let written : string_bytes c.done.result.text ≡ gate_lines c.in-Ok-gate_values.values.rows =
    first_of (cc, search rules, grind arith) in
    listed (text_of c.args.emulated) (text_of c.args.features) c.args.accepted.now c.in-Ok.e c.items-entries.result.now c.as_bytes.result.now same same_text c.in-Ok.ensures.ok
    c.in-Ok-gate_values.values c.done.result.status (string_bytes c.done.result.text) c.in-Ok-gate_values.ensures.accepted c.in-Ok-gate_values.ensures.values c.done.ensures.status written

pub returns-in_ok-text-in-Err-At : goal.returns-in_ok-text-in-Err-At
returns-in_ok-text-in-Err-At c =
    let same : c.items-entries.result.now ≡ c.args.accepted.now.gates = c.items-entries.ensures ∙ ap (λ (h : Dated). h.gates) (c.behind-accepted.view_is ∙ c.history.ensures.same) in
    let same_text : c.as_bytes.result.now ≡ unwrap_or (text_of c.args.features) [] = c.as_bytes.ensures.value ∙ c.text_or_empty-features.ensures in
    let fault : IsTextFault c.items-entries.result.now c.in-Ok.e c.as_bytes.result.now (At c.in-Err-At.place c.in-Err-At.cause) = rw c.in-Err-At.field-0-is at c.in-Err-At.ensures.fault in
    refused (text_of c.args.emulated) (text_of c.args.features) c.args.accepted.now c.in-Ok.e c.items-entries.result.now c.as_bytes.result.now same same_text c.in-Ok.ensures.ok
    c.in-Err-At.place c.in-Err-At.cause c.refused_option.result.status (string_bytes c.refused_option.result.text) fault c.refused_option.ensures.status (c.refused_option.ensures.text ∙ c.in_ok-text-in-Err-At.ensures)
