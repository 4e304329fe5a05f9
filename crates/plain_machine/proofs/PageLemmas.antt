-- What is read: pages, lists and objects.
use Rattle.std.proofs.Common.{◌≡◌, ◌≢◌, inr, ℕ, List, [], ◌∷◌, ◌++◌, Bool, true, false, Option, Some, None, refl, sym, ◌∙◌, ap, subst}
use Rattle.std.specs.Prelude.{IsSome, MatchOption, is_some, if◌then◌else◌, option_map, option_and_then}
use Rattle.discovery.specs.Groups.{group_page as page_of_group}
use Rattle.discovery.specs.Resources.{resource_list_page}
use Rattle.http_front.specs.Routes.{RouteName, version_page, metrics_page, group_list, group_page, resource_list, all_objects, objects_inside, one_object}
use Rattle.http_front.specs.declared.request.Request.{Request}
use Rattle.http_front.specs.declared.request.Verb.{Verb}
use Rattle.http_front.specs.declared.request.Verb.TheVariants.{Get, Post}
use Rattle.object_journal.specs.declared.key.Key.{Key}
use Rattle.object_state.specs.Objects.{Holds}
use Rattle.object_state.specs.State.{State}
use Rattle.object_state.specs.declared.object.Object.{Object}
use Rattle.release_view.specs.Views.{Viewed}
use Rattle.request_body.specs.Places.{IsNameFor, IsNamedByBody, Place, key_of, place_of}
use Rattle.request_body.specs.Writes.{GivesFields, GoesByBody}
use Rattle.request_target.specs.Targets.{AsksFor, Asked, Resource, asked_in, fits_scope, inside_scope, object_in_scope, releases, gates, groups, group, resource_in, resources, everywhere, inside, object}
use Rattle.plain_machine.proofs.OrderLemmas.{one_more, passed_more, passes_head_cases}
use Rattle.plain_machine.proofs.PassLemmas.{bare_meant_passed, bare_passed, no_fields_passed, no_required_passed, no_room_passed, own_name, some_is}
use Rattle.plain_machine.specs.Calls.{PassedAt, ShowsObject, field_cases, full_cases, head_cases, object_cases}
use Rattle.plain_machine.specs.Heads.{PassesHead}
use Rattle.plain_machine.specs.Reading.{HasPage, ReadsPage}
use Rattle.plain_machine.specs.Refusals.{IsNotRefused, Passes, WouldChange, last_reached, bad_body, bad_member, bad_field, no_object, object_exists, conflict, missing_field, store_full, refusals}
use Rattle.plain_machine.specs.Steps.{IsRead}
use Rattle.plain_machine.specs.declared.answer.Answer.{Answer}
use Rattle.plain_machine.specs.declared.machine.Machine.{Machine}

some_same : (x y : Asked) → Some x ≡ Some y → x ≡ y
some_same x y e = cc

none_some : (x : Asked) → None ≡ Some x → ⊥
none_some x e = cc

-- ---- pages that are asked for are there

chosen : (b : Bool) (x a : Asked) → Some a ≡ (if b then Some x else None) → (b ≡ true) × (a ≡ x)
chosen true x a e = (refl, some_same a x e)
chosen false x a e = absurd (none_some a (sym e))

among_all : (view : Viewed) (verb : Verb) (o : Option Resource) (a : Asked) → Some a ≡ option_map everywhere o → HasPage view a
among_all view verb None a e = absurd (none_some a (sym e))
among_all view verb (Some r) a e = subst (λ (x : Asked). HasPage view x) (sym (some_same a (everywhere r) e)) tt

among_inside : (view : Viewed) (namespace : List ℕ) (o : Option Resource) (a : Asked) → Some a ≡ option_and_then (λ r. inside_scope r namespace) o → HasPage view a
among_inside view namespace None a e = absurd (none_some a (sym e))
among_inside view namespace (Some r) a e =
    let c = chosen (fits_scope r namespace) (inside r namespace) a e in
    subst (λ (x : Asked). HasPage view x) (sym c.1) tt

among_objects : (view : Viewed) (verb : Verb) (namespace name : List ℕ) (o : Option Resource) (a : Asked) → ReadsPage verb a → Some a ≡ option_and_then (λ r. object_in_scope r namespace name) o → HasPage view a
among_objects view verb namespace name None a reads e = absurd (none_some a (sym e))
among_objects view verb namespace name (Some r) a reads e =
    let c = chosen (fits_scope r namespace) (object r namespace name) a e in
    absurd (subst (λ (x : Asked). ReadsPage verb x) c.1 reads)

page_of : (view : Viewed) (verb : Verb) (route : Option RouteName) (a : Asked) → ReadsPage verb a → Some a ≡ option_and_then (asked_in view) route → HasPage view a
page_of view verb None a reads e = absurd (none_some a (sym e))
page_of view verb (Some version_page) a reads e = subst (λ (x : Asked). HasPage view x) (sym (some_same a releases e)) tt
page_of view verb (Some metrics_page) a reads e = subst (λ (x : Asked). HasPage view x) (sym (some_same a gates e)) tt
page_of view verb (Some group_list) a reads e = subst (λ (x : Asked). HasPage view x) (sym (some_same a groups e)) tt
page_of view verb (Some (group_page name)) a reads e =
    let c = chosen (is_some (page_of_group view name)) (group name) a e in
    subst (λ (x : Asked). HasPage view x) (sym c.1) c.0
page_of view verb (Some (resource_list g v)) a reads e =
    let c = chosen (is_some (resource_list_page view g v)) (resources g v) a e in
    subst (λ (x : Asked). HasPage view x) (sym c.1) c.0
page_of view verb (Some (all_objects of)) a reads e = among_all view verb (resource_in view of) a e
page_of view verb (Some (objects_inside of namespace)) a reads e = among_inside view namespace (resource_in view of) a e
page_of view verb (Some (one_object of namespace name)) a reads e = among_objects view verb namespace name (resource_in view of) a reads e

pub page_there : (view : Viewed) (path : List ℕ) (verb : Verb) (a : Asked) → AsksFor view path (Some a) → ReadsPage verb a → HasPage view a
page_there view path verb a asks reads = page_of view verb asks.0 a reads asks.2

-- ---- objects

none_place : (p : Place) → None ≡ Some p → ⊥
none_place p e = cc

place_same : (p r : Place) → Some p ≡ Some r → p ≡ r
place_same p r e = cc

no_own : (p r : Place) (name : List ℕ) → Some p ≡ Some r → p.own ≡ None → r.own ≡ Some name → ⊥
no_own p r name e none own = some_is r.own name own (subst (λ (x : Place). x.own ≡ None) (place_same p r e) none)

name_same : (a b : List ℕ) → Some a ≡ Some b → a ≡ b
name_same a b e = cc

abbrev at_all : Resource → Place
at_all of = record { of = of; namespace = []; own = None }

abbrev at_inside : Resource → List ℕ → Place
at_inside of namespace = record { of = of; namespace = namespace; own = None }

abbrev at_object : Resource → List ℕ → List ℕ → Place
at_object of namespace name = record { of = of; namespace = namespace; own = Some name }

named : (of : Resource) (namespace n name : List ℕ) (place : Place) → Some (at_object of namespace n) ≡ Some place → place.own ≡ Some name → object of namespace n ≡ object place.of place.namespace name
named of namespace n name place e own =
    let p = place_same (at_object of namespace n) place e in
    let m : n ≡ name = name_same n name (ap (λ (x : Place). x.own) p ∙ own) in
    λ i. object (p i).of (p i).namespace (m i)

pub object_of : (a : Asked) (place : Place) (name : List ℕ) → place_of a ≡ Some place → place.own ≡ Some name → a ≡ object place.of place.namespace name
object_of releases place name placed own = absurd (none_place place placed)
object_of gates place name placed own = absurd (none_place place placed)
object_of groups place name placed own = absurd (none_place place placed)
object_of (group n) place name placed own = absurd (none_place place placed)
object_of (resources g v) place name placed own = absurd (none_place place placed)
object_of (everywhere of) place name placed own = absurd (no_own (at_all of) place name placed refl own)
object_of (inside of namespace) place name placed own = absurd (no_own (at_inside of namespace) place name placed refl own)
object_of (object of namespace n) place name placed own = named of namespace n name place placed own

-- the object under the key is what is read of the place
pub read_at : (m : Machine) (s : State) (q : Request) (a : Asked) (place : Place) (name : List ℕ) (key : Key) (found : Object) (answer : Answer) → IsSome place.own → place_of a ≡ Some place
    → IsNameFor q place name → key ≡ key_of place name → Holds s.objects key found → ShowsObject 200 place.of key found answer → IsRead m s a answer
read_at m s q a place name key found answer own placed is_named keyed holds shows =
    let is_object = object_of a place name placed (own_name q place name own is_named) in
    let here = subst (λ (k : Key). Holds s.objects k found) keyed holds in
    let seen = subst (λ (k : Key). ShowsObject 200 place.of k found answer) keyed shows in
    subst (λ (x : Asked). IsRead m s x answer) (sym is_object) (inr (seen.0, (found, here, seen.1), seen.2))

module _ (s : State) (q : Request) (place : Place) (get : q.verb ≡ Get) where
  by_no_body : ¬ GoesByBody q.verb q.body
  by_no_body h = subst (λ (v : Verb). GoesByBody v q.body) get h

  gives_none : ¬ GivesFields q.verb
  gives_none h = subst (λ (v : Verb). GivesFields v) get h

  makes_none : q.verb ≢ Post
  makes_none h = let e : Get ≡ Post = sym get ∙ h in cc

  -- what is read isn't refused for a body
  pub get_passed : PassedAt s q place field_cases
  get_passed = no_fields_passed s q place (bare_passed s q place by_no_body) gives_none

  -- nor behind the object's being there
  pub get_free : PassedAt s q place object_cases → PassedAt s q place refusals
  get_free passed =
      passed_more s q place full_cases last_reached
      (no_room_passed s q place (no_required_passed s q place (bare_meant_passed s q place passed by_no_body) gives_none) makes_none)
      (λ a placed answer h. subst (λ (v : Verb). WouldChange s q h.0 h.1 v) get h.3)

-- ---- pages and lists aren't refused

nameless : (verb : Verb) (a : Asked) (place : Place) → ReadsPage verb a → place_of a ≡ Some place → place.own ≡ None
nameless verb releases place reads placed = absurd (none_place place placed)
nameless verb gates place reads placed = absurd (none_place place placed)
nameless verb groups place reads placed = absurd (none_place place placed)
nameless verb (group n) place reads placed = absurd (none_place place placed)
nameless verb (resources g v) place reads placed = absurd (none_place place placed)
nameless verb (everywhere of) place reads placed = ap (λ (p : Place). p.own) (sym (place_same (at_all of) place placed))
nameless verb (inside of namespace) place reads placed = ap (λ (p : Place). p.own) (sym (place_same (at_inside of namespace) place placed))
nameless verb (object of namespace n) place reads placed = absurd reads

posts_at : (own : Option (List ℕ)) (q : Request) (name : List ℕ) → own ≡ None → MatchOption own ((q.verb ≡ Post) × IsNamedByBody q.body name) (λ own. name ≡ own) → q.verb ≡ Post
posts_at None q name none h = h.0
posts_at (Some own) q name none h = cc

pub reads_get : (verb : Verb) (a : Asked) → ReadsPage verb a → verb ≡ Get
reads_get verb releases h = h
reads_get verb gates h = h
reads_get verb groups h = h
reads_get verb (group n) h = h
reads_get verb (resources g v) h = h
reads_get verb (everywhere of) h = h
reads_get verb (inside of namespace) h = h
reads_get verb (object of namespace n) h = absurd h

module _ (s : State) (q : Request) (a : Asked) (head : PassesHead q a) (reads : ReadsPage q.verb a) where
  gets : q.verb ≡ Get
  gets = reads_get q.verb a reads

  no_body_here : ¬ GoesByBody q.verb q.body
  no_body_here h = subst (λ (v : Verb). GoesByBody v q.body) gets h

  no_fields_here : ¬ GivesFields q.verb
  no_fields_here h = subst (λ (v : Verb). GivesFields v) gets h

  no_post_here : q.verb ≢ Post
  no_post_here h = let e : Get ≡ Post = sym gets ∙ h in cc

  pub page_free : IsNotRefused s q (Some a)
  page_free =
      let heads = passes_head_cases s q a head in
      let P = Passes s q (Some a) in
      one_more P (head_cases ++ bad_body ∷ bad_member ∷ bad_field ∷ no_object ∷ object_exists ∷ conflict ∷ missing_field ∷ store_full ∷ []) last_reached
      (one_more P (head_cases ++ bad_body ∷ bad_member ∷ bad_field ∷ no_object ∷ object_exists ∷ conflict ∷ missing_field ∷ []) store_full
      (one_more P (head_cases ++ bad_body ∷ bad_member ∷ bad_field ∷ no_object ∷ object_exists ∷ conflict ∷ []) missing_field
      (one_more P (head_cases ++ bad_body ∷ bad_member ∷ bad_field ∷ no_object ∷ object_exists ∷ []) conflict
      (one_more P (head_cases ++ bad_body ∷ bad_member ∷ bad_field ∷ no_object ∷ []) object_exists
      (one_more P (head_cases ++ bad_body ∷ bad_member ∷ bad_field ∷ []) no_object
      (one_more P (head_cases ++ bad_body ∷ bad_member ∷ []) bad_field
      (one_more P (head_cases ++ bad_body ∷ []) bad_member
      (one_more P head_cases bad_body heads
      (λ answer h. no_body_here h.0))
      (λ answer h. no_body_here h.4.0))
      (λ answer h. no_fields_here h.5))
      (λ answer h. some_is h.0.own h.1 h.3 (nameless q.verb a h.0 reads h.2.placed)))
      (λ answer h. no_post_here (posts_at h.0.own q h.1 h.3 h.2.named)))
      (λ answer h. no_body_here h.6.0))
      (λ answer h. no_fields_here h.5))
      (λ answer h. no_post_here h.0))
      (λ answer h. subst (λ (v : Verb). WouldChange s q h.0 h.1 v) gets h.3)
