-- A request has one step.
use Rattle.std.proofs.Common.{◌≡◌, ℕ, List, Option, Some, None, sym, ◌∙◌, ap, subst}
use Rattle.basis.proofs.FirstLemmas.{first_is_one, first_refutes}
use Rattle.conversion.proofs.FaultLemmas.{one_fault}
use Rattle.conversion.proofs.TreeLemmas.{some_one}
use Rattle.conversion.specs.Reading.{IsFirstFault}
use Rattle.conversion.specs.declared.mode.Mode.TheVariants.{Body}
use Rattle.fields.specs.declared.map.FieldPair.{FieldPair}
use Rattle.fields.specs.declared.table.FieldRow.{FieldRow}
use Rattle.http_front.specs.declared.request.Request.{Request}
use Rattle.object_state.specs.Objects.{AreInKeyOrder}
use Rattle.object_state.specs.State.{State}
use Rattle.request_body.proofs.GivenLemmas.{misses_once, one_misfit}
use Rattle.request_body.proofs.RequestLemmas.{given_once}
use Rattle.request_body.specs.Members.{IsMisfit}
use Rattle.request_body.specs.Places.{IsAbout, IsNameFor, Place}
use Rattle.request_body.specs.Writes.{AreGiven, IsFirstMissing}
use Rattle.request_target.specs.Queries.{unsupported}
use Rattle.request_target.specs.Targets.{Asked, Resource}
use Rattle.serde_json.specs.Data.{Data}
use Rattle.plain_machine.proofs.PassLemmas.{one_name, same_place, same_tree}
use Rattle.plain_machine.specs.Laws.{HasOneVerdict}
use Rattle.plain_machine.specs.Refusals.{IsNotRefused, IsRefused, Passes, Refusal, Refuses, not_served, not_allowed, bad_query, bad_query_answer, no_length, too_large, bad_body, bad_member, bad_member_answer, bad_field, bad_field_answer, no_object, no_object_answer, object_exists, exists_answer, conflict, conflict_answer, missing_field, missing_answer, store_full, last_reached, refusals}
use Rattle.plain_machine.specs.declared.answer.Answer.{Answer}

name_same : (a b : List ℕ) (o : Option (List ℕ)) → o ≡ Some a → o ≡ Some b → a ≡ b
name_same a b o h k = some_one o a b h k

module _ (s : State) (order : AreInKeyOrder s.objects) (q : Request) where
  -- two readings of what the request is about are one
  pub same_about : (a : Asked) (p r : Place) (name other : List ℕ) → IsAbout q a p name → IsAbout q a r other → (r ≡ p) × (other ≡ name)
  same_about a p r name other h k =
      let e : r ≡ p = same_place a r p k.placed h.placed in
      (e, one_name q p other name (subst (λ (x : Place). IsNameFor q x other) e k.named) h.named)

  about_answer : (f : Resource → List ℕ → Answer) (a : Asked) (p r : Place) (name other : List ℕ) (x y : Answer) → IsAbout q a p name → IsAbout q a r other → x ≡ f p.of name → y ≡ f r.of other → x ≡ y
  about_answer f a p r name other x y h k is is_other =
      let same = same_about a p r name other h k in
      is ∙ (sym (ap (λ n. f p.of n) same.1) ∙ (sym (ap (λ (z : Place). f z.of other) same.0) ∙ sym is_other))

  case_asked : (a : Asked) (r : Refusal) (x y : Answer) → Refuses s q (Some a) r x → Refuses s q (Some a) r y → x ≡ y
  case_asked a not_served x y h k = h.1 ∙ sym k.1
  case_asked a not_allowed x y h k = h.1 ∙ sym k.1
  case_asked a bad_query x y h k = h.2 ∙ (ap bad_query_answer (name_same h.0 k.0 (unsupported q.query) h.1 k.1) ∙ sym k.2)
  case_asked a no_length x y h k = h.1 ∙ sym k.1
  case_asked a too_large x y h k = h.1 ∙ sym k.1
  case_asked a bad_body x y h k = h.2 ∙ sym k.2
  case_asked a bad_member x y h k =
      let p : k.0 ≡ h.0 = same_place a k.0 h.0 k.3 h.3 in
      let t : k.1 ≡ h.1 = same_tree q.body k.1 h.1 k.4.1 h.4.1 in
      let m : h.2 ≡ k.2 = one_misfit q.verb h.0 h.1 h.2 k.2 h.5 (subst (λ (r : Place). IsMisfit q.verb r h.1 k.2) p (subst (λ (d : Data). IsMisfit q.verb k.0 d k.2) t k.5)) in
      h.6 ∙ (ap bad_member_answer m ∙ sym k.6)
  case_asked a bad_field x y h k =
      let p : k.0 ≡ h.0 = same_place a k.0 h.0 k.4 h.4 in
      let t : k.1 ≡ h.1 = same_tree q.body k.1 h.1 k.6 h.6 in
      let f = one_fault Body h.0.of.table.rows h.1 h.2 k.2 h.3 k.3 h.7 (subst (λ (r : Place). IsFirstFault Body r.of.table.rows h.1 k.2 k.3) p (subst (λ (d : Data). IsFirstFault Body k.0.of.table.rows d k.2 k.3) t k.7)) in
      h.8 ∙ ((λ i. bad_field_answer (f.0 i) (f.1 i)) ∙ sym k.8)
  case_asked a no_object x y h k = about_answer no_object_answer a h.0 k.0 h.1 k.1 x y h.2 k.2 h.5 k.5
  case_asked a object_exists x y h k = about_answer exists_answer a h.0 k.0 h.1 k.1 x y h.2 k.2 h.5 k.5
  case_asked a conflict x y h k = about_answer conflict_answer a h.0 k.0 h.1 k.1 x y h.4 k.4 h.8 k.8
  case_asked a missing_field x y h k =
      let same = same_about a h.0 k.0 h.1 k.1 h.4 k.4 in
      let given = subst (λ (n : List ℕ). AreGiven s q h.0 n k.2) same.1 (subst (λ (r : Place). AreGiven s q r k.1 k.2) same.0 k.6) in
      let f : k.2 ≡ h.2 = given_once s q h.0 order h.1 k.2 h.2 given h.6 in
      let first = subst (λ (g : List FieldPair). IsFirstMissing h.0.of.table.rows g k.3) f (subst (λ (r : Place). IsFirstMissing r.of.table.rows k.2 k.3) same.0 k.7) in
      let row : h.3 ≡ k.3 = misses_once h.0.of.table.rows h.2 h.3 k.3 h.7 first in
      about_answer (λ of name. missing_answer of name h.3.path) a h.0 k.0 h.1 k.1 x y h.4 k.4 h.8 (k.8 ∙ ap (λ (r : FieldRow). missing_answer k.0.of k.1 r.path) (sym row))
  case_asked a store_full x y h k = h.2 ∙ sym k.2
  case_asked a last_reached x y h k = h.5 ∙ sym k.5

  case_unasked : (r : Refusal) (x y : Answer) → Refuses s q None r x → Refuses s q None r y → x ≡ y
  case_unasked not_served x y h k = h.1 ∙ sym k.1
  case_unasked not_allowed x y h k = absurd h
  case_unasked bad_query x y h k = h.2 ∙ (ap bad_query_answer (name_same h.0 k.0 (unsupported q.query) h.1 k.1) ∙ sym k.2)
  case_unasked no_length x y h k = h.1 ∙ sym k.1
  case_unasked too_large x y h k = h.1 ∙ sym k.1
  case_unasked bad_body x y h k = h.2 ∙ sym k.2
  case_unasked bad_member x y h k = absurd h
  case_unasked bad_field x y h k = absurd h
  case_unasked no_object x y h k = absurd h
  case_unasked object_exists x y h k = absurd h
  case_unasked conflict x y h k = absurd h
  case_unasked missing_field x y h k = absurd h
  case_unasked store_full x y h k = h.2 ∙ sym k.2
  case_unasked last_reached x y h k = absurd h

  case_once : (asked : Option Asked) (r : Refusal) (x y : Answer) → Refuses s q asked r x → Refuses s q asked r y → x ≡ y
  case_once None r x y h k = case_unasked r x y h k
  case_once (Some a) r x y h k = case_asked a r x y h k

  pub refused_once : (asked : Option Asked) (x y : Answer) → IsRefused s q asked x → IsRefused s q asked y → x ≡ y
  refused_once asked x y h k =
      let r : h.0 ≡ k.0 = first_is_one (Passes s q asked) (λ z. Refuses s q asked z x) (λ z. Refuses s q asked z y) refusals h.0 k.0 (λ z f g. g x f) (λ z f g. g y f) h.1 k.1 in
      case_once asked k.0 x y (subst (λ (z : Refusal). Refuses s q asked z x) r h.1.faulty) k.1.faulty

  pub not_both : (asked : Option Asked) (x : Answer) → IsRefused s q asked x → IsNotRefused s q asked → ⊥
  not_both asked x h k = first_refutes (Passes s q asked) (λ z. Refuses s q asked z x) refusals h.0 (λ f g. g x f) h.1 k

  pub one_verdict : HasOneVerdict s q
  one_verdict = record {
    either = λ asked x h k. not_both asked x h k;
    one = refused_once;
  }
