-- Through each step objects go on fitting the versions of their resources.
use Rattle.std.proofs.Common.{◌≡◌, inl, inr, ℕ, List, Bool, true, false, Option, Some, None, refl, sym, ◌∙◌, ap, subst, cond}
use Rattle.std.specs.Prelude.{option_and_then, option_map}
use Rattle.std.proofs.lemmas.List.Elements.{All-contains}
use Rattle.fields.specs.Fits.{Fits}
use Rattle.fields.specs.Table.{AreLawful}
use Rattle.fields.specs.declared.table.VersionTable.{VersionTable}
use Rattle.http_front.specs.Routes.{RouteName, version_page, metrics_page, group_list, group_page, resource_list, all_objects, objects_inside, one_object}
use Rattle.http_front.specs.declared.request.Request.{Request}
use Rattle.http_front.specs.declared.request.Verb.{Verb}
use Rattle.http_front.specs.declared.request.Verb.TheVariants.{Get, Post, Put, Delete, Patch, Head, Other}
use Rattle.lifecycle.specs.Entry.{GroupVersionResource}
use Rattle.object_journal.specs.declared.key.Key.{Key}
use Rattle.object_pages.specs.Fitting.{FitVersions}
use Rattle.object_state.specs.State.{IsNext, State}
use Rattle.object_state.specs.declared.object.Change.{Change}
use Rattle.object_state.specs.declared.object.Object.{Object}
use Rattle.release_view.specs.Kept.{IsKept}
use Rattle.release_view.specs.Laws.{FindsEach}
use Rattle.release_view.specs.Served.{served_as, served_of, shown, shown_name}
use Rattle.release_view.specs.Views.{Viewed, is_shown_as, served_in, table_in}
use Rattle.release_view.specs.declared.known.KnownVersion.{KnownVersion}
use Rattle.release_view.specs.declared.served.ServedVersion.{ServedVersion}
use Rattle.release_view.proofs.ListLemmas.{found, given_of}
use Rattle.release_view.proofs.LookupLemmas.{named_of}
use Rattle.request_body.proofs.GivenLemmas.{gives_fitting}
use Rattle.request_body.specs.Places.{Place, key_of, place_of}
use Rattle.request_body.specs.Writes.{AreGiven, held_fields}
use Rattle.request_target.proofs.TargetLemmas.{is_resource}
use Rattle.request_target.specs.Targets.{Asked, AsksFor, Resource, asked_in, fits_scope, inside_scope, object_in_scope, resource_in, releases, gates, groups, group, resources, everywhere, inside, object}
use Rattle.request_target.specs.Told.{IsResourceIn}
use Rattle.plain_machine.proofs.KeptLemmas.{fit_after}
use Rattle.plain_machine.proofs.LawLemmas.{made_at, no_change_here, no_object_here, same_change}
use Rattle.plain_machine.proofs.PlaceLemmas.{at_all, at_inside, at_object, fits_each}
use Rattle.plain_machine.specs.Laws.{GoesOnFitting}
use Rattle.plain_machine.specs.Sound.{FitsEach}
use Rattle.plain_machine.specs.Steps.{Decides, IsGranted, IsWritten}
use Rattle.plain_machine.specs.declared.answer.Answer.{Answer}
use Rattle.plain_machine.specs.declared.machine.Machine.{Machine}

no_asked : (a : Asked) → None ≡ Some a → ⊥
no_asked a e = cc

same_asked : (a b : Asked) → Some a ≡ Some b → a ≡ b
same_asked a b e = cc

no_place : (p : Place) → None ≡ Some p → ⊥
no_place p e = cc

same_place : (p r : Place) → Some p ≡ Some r → p ≡ r
same_place p r e = cc

no_resource : (r : Resource) → None ≡ Some r → ⊥
no_resource r e = cc

same_resource : (r o : Resource) → Some r ≡ Some o → r ≡ o
same_resource r o e = cc

same_shown : (s t : ServedVersion) → Some s ≡ Some t → s ≡ t
same_shown s t e = cc

no_shown : (s : ServedVersion) → None ≡ Some s → ⊥
no_shown s e = cc

picked : (b : Bool) (x a : Asked) → cond b (Some x) None ≡ Some a → x ≡ a
picked true x a e = same_asked x a e
picked false x a e = absurd (no_asked a e)

shown_one : (v : KnownVersion) (b : Bool) (s : ServedVersion) → cond b (Some (shown v)) None ≡ Some s → shown v ≡ s
shown_one v true s e = same_shown (shown v) s e
shown_one v false s e = absurd (no_shown s e)

-- ---- what a path asks for is of the view

module _ (view : Viewed) (finds : FindsEach view.versions) where
  named_shown : (name : GroupVersionResource) (s : ServedVersion) → served_in view.versions name ≡ Some s → shown_name s ≡ name
  named_shown name s e =
      let (there, passes) = found (is_shown_as name) (served_of view.versions) s e in
      let (v, among, as_shown) = given_of served_as view.versions s there in
      let is_shown : shown v ≡ s = shown_one v v.served s as_shown in
      ap shown_name (sym is_shown) ∙ named_of name v (subst (λ (u : ServedVersion). is_shown_as name u ≡ true) (sym is_shown) passes)

  known_by : (name : GroupVersionResource) (r : Resource) (s : Option ServedVersion) (t : Option VersionTable) → served_in view.versions name ≡ s → table_in view.versions name ≡ t
      → option_and_then (λ (w : ServedVersion). option_map (λ (u : VersionTable). record { served = w; table = u }) t) s ≡ Some r → IsResourceIn view.versions r
  known_by name r None t es et h = absurd (no_resource r h)
  known_by name r (Some s) None es et h = absurd (no_resource r h)
  known_by name r (Some s) (Some t) es et h =
      subst (IsResourceIn view.versions) (same_resource (record { served = s; table = t }) r h) (is_resource view.versions name s t finds es (named_shown name s es) et)

  known_in : (name : GroupVersionResource) (r : Resource) → resource_in view name ≡ Some r → IsResourceIn view.versions r
  known_in name r h = known_by name r (served_in view.versions name) (table_in view.versions name) refl refl h

  at_place : (p place : Place) (a x : Asked) → IsResourceIn view.versions p.of → x ≡ a → place_of x ≡ Some p → place_of a ≡ Some place → IsResourceIn view.versions place.of
  at_place p place a x known e of placed = subst (λ (q : Place). IsResourceIn view.versions q.of) (same_place p place (sym of ∙ (ap place_of e ∙ placed))) known

  from_all : (place : Place) (a : Asked) (o : Option Resource) → ((r : Resource) → o ≡ Some r → IsResourceIn view.versions r) → option_map everywhere o ≡ Some a → place_of a ≡ Some place
      → IsResourceIn view.versions place.of
  from_all place a None known h placed = absurd (no_asked a h)
  from_all place a (Some r) known h placed = at_place (at_all r) place a (everywhere r) (known r refl) (same_asked (everywhere r) a h) refl placed

  from_inside : (namespace : List ℕ) (place : Place) (a : Asked) (o : Option Resource) → ((r : Resource) → o ≡ Some r → IsResourceIn view.versions r)
      → option_and_then (λ r. inside_scope r namespace) o ≡ Some a → place_of a ≡ Some place → IsResourceIn view.versions place.of
  from_inside namespace place a None known h placed = absurd (no_asked a h)
  from_inside namespace place a (Some r) known h placed =
      at_place (at_inside r namespace) place a (inside r namespace) (known r refl) (picked (fits_scope r namespace) (inside r namespace) a h) refl placed

  from_object : (namespace name : List ℕ) (place : Place) (a : Asked) (o : Option Resource) → ((r : Resource) → o ≡ Some r → IsResourceIn view.versions r)
      → option_and_then (λ r. object_in_scope r namespace name) o ≡ Some a → place_of a ≡ Some place → IsResourceIn view.versions place.of
  from_object namespace name place a None known h placed = absurd (no_asked a h)
  from_object namespace name place a (Some r) known h placed =
      at_place (at_object r namespace name) place a (object r namespace name) (known r refl) (picked (fits_scope r namespace) (object r namespace name) a h) refl placed

  placed_by : (route : RouteName) (a : Asked) (place : Place) → asked_in view route ≡ Some a → place_of a ≡ Some place → IsResourceIn view.versions place.of
  placed_by version_page a place h placed = absurd (no_place place (ap place_of (same_asked releases a h) ∙ placed))
  placed_by metrics_page a place h placed = absurd (no_place place (ap place_of (same_asked gates a h) ∙ placed))
  placed_by group_list a place h placed = absurd (no_place place (ap place_of (same_asked groups a h) ∙ placed))
  placed_by (group_page name) a place h placed =
      absurd (no_place place (ap place_of (picked _ (group name) a h) ∙ placed))
  placed_by (resource_list g v) a place h placed =
      absurd (no_place place (ap place_of (picked _ (resources g v) a h) ∙ placed))
  placed_by (all_objects of) a place h placed = from_all place a (resource_in view of) (known_in of) h placed
  placed_by (objects_inside of namespace) a place h placed = from_inside namespace place a (resource_in view of) (known_in of) h placed
  placed_by (one_object of namespace name) a place h placed = from_object namespace name place a (resource_in view of) (known_in of) h placed

  placed_in : (route : Option RouteName) (asked : Option Asked) (a : Asked) (place : Place) → asked ≡ Some a → asked ≡ option_and_then (asked_in view) route → place_of a ≡ Some place
      → IsResourceIn view.versions place.of
  placed_in None asked a place is by placed = absurd (no_asked a (sym by ∙ is))
  placed_in (Some route) asked a place is by placed = placed_by route a place (sym by ∙ is) placed

-- ---- what is written is given

module _ (s : State) (q : Request) where
  record IsGivenAt (a : Asked) (change : Change) (x : Object) : Type 0 where
    place : Place
    name : List ℕ
    placed : place_of a ≡ Some place
    of_key : change.key ≡ key_of place name
    given : AreGiven s q place name x.fields

  given_at : (a : Asked) (place : Place) (name : List ℕ) (made x : Object) (c : Option Change) (change : Change) → place_of a ≡ Some place → AreGiven s q place name made.fields
      → c ≡ Some (record { key = key_of place name; object = Some made }) → c ≡ Some change → change.object ≡ Some x → IsGivenAt a change x
  given_at a place name made x c change placed given is of there = record {
    place = place;
    name = name;
    placed = placed;
    of_key = sym (ap (λ (z : Change). z.key) (same_change (record { key = key_of place name; object = Some made }) change (sym is ∙ of)));
    given = subst (λ (o : Object). AreGiven s q place name o.fields) (made_at s (key_of place name) made x c change is of there) given;
  }

  written_at : (a : Asked) (verb : Verb) (place : Place) (name : List ℕ) (y : Answer) (c : Option Change) (change : Change) (x : Object) → place_of a ≡ Some place → IsWritten s q verb place name y c
      → c ≡ Some change → change.object ≡ Some x → IsGivenAt a change x
  written_at a Post place name y c change x placed h of there = given_at a place name h.0 x c change placed h.1 h.4 of there
  written_at a Put place name y c change x placed (old, holds, inl h) of there = given_at a place name h.0 x c change placed h.1 h.5 of there
  written_at a Put place name y c change x placed (old, holds, inr h) of there = absurd (no_change_here change (sym h.1 ∙ of))
  written_at a Delete place name y c change x placed h of there =
      let e : record { key = key_of place name; object = None } ≡ change = same_change (record { key = key_of place name; object = None }) change (sym h.0 ∙ of) in
      absurd (no_object_here x (ap (λ (z : Change). z.object) e ∙ there))
  written_at a Get place name y c change x placed h of there = absurd h
  written_at a Patch place name y c change x placed h of there = absurd h
  written_at a Head place name y c change x placed h of there = absurd h
  written_at a Other place name y c change x placed h of there = absurd h

  granted_at : (m : Machine) (a : Asked) (y : Answer) (c : Option Change) (change : Change) (x : Object) → IsGranted m s q a y c → c ≡ Some change → change.object ≡ Some x → IsGivenAt a change x
  granted_at m a y c change x (inl h) of there = absurd (no_change_here change (sym h.2 ∙ of))
  granted_at m a y c change x (inr h) of there = written_at a q.verb h.0 h.1 y c change x h.2.placed h.3 of there

  -- ---- and fits

  given_fits : (view : Viewed) → FindsEach view.versions → IsKept view → (route : Option RouteName) (asked : Option Asked) (a : Asked) (change : Change) (x : Object)
      → asked ≡ Some a → asked ≡ option_and_then (asked_in view) route → IsGivenAt a change x → FitsEach view.versions change.key x.fields
  given_fits view finds kept route asked a change x is by g =
      let known : IsResourceIn view.versions g.place.of = placed_in view finds route asked a g.place is by g.placed in
      let lawful : AreLawful g.place.of.table.rows =
      subst (λ (t : VersionTable). AreLawful t.rows) known.table (All-contains (λ (v : KnownVersion). AreLawful v.table.rows) view.versions known.version kept.lawful known.among) in
      let fits : Fits g.place.of.table.rows x.fields = gives_fitting g.place.of.table.rows g.given.tree (held_fields g.given.stored) lawful x.fields g.given.given in
      fits_each view.versions g.place.of change.key x.fields kept.alike known (ap (λ (k : Key). k.group) g.of_key) (ap (λ (k : Key). k.resource) g.of_key) fits

  decided_fits : (m : Machine) → FindsEach m.view.versions → IsKept m.view → (asked : Option Asked) → AsksFor m.view q.path asked → (y : Answer) (c : Option Change) → Decides m s q asked y c
      → (change : Change) (x : Object) → c ≡ Some change → change.object ≡ Some x → FitsEach m.view.versions change.key x.fields
  decided_fits m finds kept asked asks y c (inl h) change x of there = absurd (no_change_here change (sym h.1 ∙ of))
  decided_fits m finds kept asked asks y c (inr h) change x of there =
      given_fits m.view finds kept asks.0 asked h.1.0 change x h.1.1 asks.2 (granted_at m h.1.0 y c change x h.1.2 of there)

  fit_next : (versions : List KnownVersion) (c : Option Change) (after : State) → FitVersions versions s.objects
      → ((change : Change) (x : Object) → c ≡ Some change → change.object ≡ Some x → FitsEach versions change.key x.fields) → IsNext s c after → FitVersions versions after.objects
  fit_next versions None after fit each next = subst (λ (z : State). FitVersions versions z.objects) (sym next) fit
  fit_next versions (Some change) after fit each next = fit_after versions s after change fit (λ x there. each change x refl there) next

  pub goes_on_fitting : (m : Machine) → FindsEach m.view.versions → IsKept m.view → GoesOnFitting m s q
  goes_on_fitting m finds kept = λ reply after fit step.
      fit_next m.view.versions step.change after fit
      (λ change x of there. decided_fits m finds kept step.asked step.asks step.answer step.change step.decides change x of there) step.next
