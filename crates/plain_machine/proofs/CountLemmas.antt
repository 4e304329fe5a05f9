-- How many records a step leaves.
use Rattle.std.proofs.Common.{◌≡◌, ◌≢◌, ◌⊎◌, inl, inr, ℕ, ◌+◌, ◌-◌, List, Option, Some, None, refl, sym, ◌∙◌, ap, subst}
use Rattle.std.proofs.lemmas.List.Elements.{recursion_from_All}
use Rattle.http_front.specs.declared.request.Request.{Request}
use Rattle.http_front.specs.declared.request.Verb.{Verb}
use Rattle.http_front.specs.declared.request.Verb.TheVariants.{Get, Post, Put, Delete}
use Rattle.object_state.specs.Objects.{HasKey}
use Rattle.object_state.specs.State.{IsApplied, IsNext, State}
use Rattle.object_state.specs.declared.object.Change.{Change}
use Rattle.object_state.specs.declared.object.Object.{Object}
use Rattle.request_body.specs.Places.{IsAbout, Place, key_of}
use Rattle.request_target.specs.Methods.{Allows, methods}
use Rattle.request_target.specs.declared.target.Methods.TheVariants.{Single}
use Rattle.request_target.specs.Targets.{Asked, object}
use Rattle.plain_machine.proofs.LawLemmas.{left}
use Rattle.plain_machine.proofs.PageLemmas.{object_of}
use Rattle.plain_machine.specs.Laws.{CountsRecords}
use Rattle.plain_machine.specs.Refusals.{IsNotRefused, Passes, exists_answer, not_allowed_answer, refusals}
use Rattle.plain_machine.specs.Steps.{Decides, IsLeft, IsUpdated, IsWritten}
use Rattle.plain_machine.specs.declared.answer.Answer.{Answer}
use Rattle.plain_machine.specs.declared.machine.Machine.{Machine}

no_post : (verb : Verb) → verb ≡ Post → Allows Single verb → ⊥
no_post verb post (inl e) = let f : Delete ≡ Post = sym e ∙ post in cc
no_post verb post (inr (inl e)) = let f : Get ≡ Post = sym e ∙ post in cc
no_post verb post (inr (inr e)) = let f : Put ≡ Post = sym e ∙ post in cc

applied_of : (s after : State) (c : Option Change) (change : Change) → c ≡ Some change → IsNext s c after → IsApplied s change after
applied_of s after c change is next = subst (λ (z : Option Change). IsNext s z after) is next

module _ (s : State) (q : Request) (a : Asked) (free : IsNotRefused s q (Some a)) (place : Place) (name : List ℕ) (about : IsAbout q a place name) (post : q.verb ≡ Post) where
  nameless_at : (own : Option (List ℕ)) → place.own ≡ own → own ≡ None
  nameless_at None is = refl
  nameless_at (Some n) is =
      let e : a ≡ object place.of place.namespace n = object_of a place n about.placed is in
      let passes = (recursion_from_All (Passes s q (Some a)) refusals free).1.0 in
      absurd (passes (not_allowed_answer (methods a)) ((λ allows. no_post q.verb post (subst (λ (z : Asked). Allows (methods z) q.verb) e allows)), refl))

  -- what is made wasn't there
  pub was_absent : ¬ HasKey s.objects (key_of place name)
  was_absent has =
      let passes = (recursion_from_All (Passes s q (Some a)) refusals free).1.1.1.1.1.1.1.1.1.0 in
      passes (exists_answer place.of name) (place, name, about, nameless_at place.own refl, has, refl)

module _ (s after : State) (q : Request) (c : Option Change) (next : IsNext s c after) where
  made_more : (m : Machine) (asked : Option Asked) (x : Answer) → after ≢ s → q.verb ≡ Post → Decides m s q asked x c → after.records ≡ s.records + 1
  made_more m asked x other post (inl h) = absurd (other (left s after c h.1 next))
  made_more m asked x other post (inr (free, (a, is, inl h))) = absurd (let e : Get ≡ Post = sym h.0 ∙ post in cc)
  made_more m asked x other post (inr (free, (a, is, inr h))) =
      let w = subst (λ (v : Verb). IsWritten s q v h.0 h.1 x c) post h.3 in
      let applied = applied_of s after c (record { key = key_of h.0 h.1; object = Some w.0 }) w.4 next in
      applied.records.comes w.0 refl (was_absent s q a (subst (λ (z : Option Asked). IsNotRefused s q z) is free) h.0 h.1 h.2 post)

  put_same : (place : Place) (name : List ℕ) (x : Answer) (old : Object) → HasKey s.objects (key_of place name) → IsUpdated s q place name old x c ⊎ IsLeft s q place name old x c → after.records ≡ s.records
  put_same place name x old has (inl h) =
      let applied = applied_of s after c (record { key = key_of place name; object = Some h.0 }) h.5 next in
      applied.records.stays h.0 refl has
  put_same place name x old has (inr h) = ap (λ (z : State). z.records) (left s after c h.1 next)

  replaced_same : (m : Machine) (asked : Option Asked) (x : Answer) → q.verb ≡ Put → Decides m s q asked x c → after.records ≡ s.records
  replaced_same m asked x put (inl h) = ap (λ (z : State). z.records) (left s after c h.1 next)
  replaced_same m asked x put (inr (free, (a, is, inl h))) = absurd (let e : Get ≡ Put = sym h.0 ∙ put in cc)
  replaced_same m asked x put (inr (free, (a, is, inr h))) =
      let w = subst (λ (v : Verb). IsWritten s q v h.0 h.1 x c) put h.3 in
      put_same h.0 h.1 x w.0 (w.0, w.1) w.2

  deleted_less : (m : Machine) (asked : Option Asked) (x : Answer) → after ≢ s → q.verb ≡ Delete → Decides m s q asked x c → after.records ≡ s.records - 1
  deleted_less m asked x other delete (inl h) = absurd (other (left s after c h.1 next))
  deleted_less m asked x other delete (inr (free, (a, is, inl h))) = absurd (let e : Get ≡ Delete = sym h.0 ∙ delete in cc)
  deleted_less m asked x other delete (inr (free, (a, is, inr h))) =
      let w = subst (λ (v : Verb). IsWritten s q v h.0 h.1 x c) delete h.3 in
      let applied = applied_of s after c (record { key = key_of h.0 h.1; object = None }) w.0 next in
      applied.records.goes refl

pub counts_records : (m : Machine) (s : State) (q : Request) → CountsRecords m s q
counts_records m s q = record {
  created = λ reply after step other post. made_more s after q step.change step.next m step.asked step.answer other post step.decides;
  replaced = λ reply after step put. replaced_same s after q step.change step.next m step.asked step.answer put step.decides;
  deleted = λ reply after step other delete. deleted_less s after q step.change step.next m step.asked step.answer other delete step.decides;
}
