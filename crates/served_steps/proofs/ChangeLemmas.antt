-- A change that a request makes can be stored.
use Rattle.std.proofs.Common.{◌≡◌, ◌≢◌, inl, inr, ⊎_elim, ℕ, ◌+◌, ◌<◌, ◌≤◌, List, Bool, true, false, ◌&&◌, ◌||◌, [], ◌∷◌, Option, Some, None, Contains, bytes_eq, refl, sym, ◌∙◌, ap, subst, cond}
use Rattle.std.specs.Prelude.{option_and_then, option_map, IsTrue, MatchOption}
use Rattle.std.proofs.lemmas.Bool.{cases_lt, false≢true}
use Rattle.std.proofs.lemmas.List.Elements.{All-contains, recursion_from_All}
use Rattle.std.proofs.lemmas.Slice.Eq.{bytes_eq-Decides}
use Rattle.fields.specs.Fits.{Fits}
use Rattle.fields.specs.Table.{AreLawful}
use Rattle.fields.specs.declared.map.FieldPair.{FieldPair}
use Rattle.fields.specs.declared.table.VersionTable.{VersionTable}
use Rattle.http_front.specs.Routes.{RouteName, version_page, metrics_page, group_list, group_page, resource_list, all_objects, objects_inside, one_object}
use Rattle.http_front.specs.declared.request.Request.{Request}
use Rattle.http_front.specs.declared.request.Verb.{Verb}
use Rattle.http_front.specs.declared.request.Verb.TheVariants.{Get, Post, Put, Delete, Patch, Head, Other}
use Rattle.key_order.proofs.OrderLemmas.{head_or_tail, none_there}
use Rattle.lifecycle.specs.Entry.{GroupVersionResource}
use Rattle.object_journal.specs.Journal.{most_keys, last_revision}
use Rattle.object_journal.specs.declared.key.Key.{Key}
use Rattle.object_state.proofs.StateLemmas.{has_or_not, one_object as same_holds}
use Rattle.object_state.specs.Objects.{AreInKeyOrder, Holds, HasKey}
use Rattle.object_state.specs.State.{State}
use Rattle.object_state.specs.declared.object.Change.{Change}
use Rattle.object_state.specs.declared.object.Object.{Object}
use Rattle.plain_machine.proofs.CountLemmas.{was_absent}
use Rattle.plain_machine.proofs.LawLemmas.{no_change_here, no_object_here, same_change}
use Rattle.plain_machine.proofs.PlaceLemmas.{at_all, at_inside, at_object}
use Rattle.plain_machine.specs.Deciding.{IsDecided}
use Rattle.plain_machine.specs.Refusals.{IsNotRefused, Passes, WouldChange, refusals, full_answer, ended_answer, no_object_answer}
use Rattle.plain_machine.specs.Steps.{Decides, IsGranted, IsWritten}
use Rattle.plain_machine.specs.declared.decision.Decided.{Decided}
use Rattle.plain_machine.specs.declared.machine.Machine.{Machine}
use Rattle.release_view.proofs.ListLemmas.{found, given_of}
use Rattle.release_view.proofs.LookupLemmas.{named_of}
use Rattle.release_view.specs.Kept.{IsKept}
use Rattle.release_view.specs.Laws.{FindsEach}
use Rattle.release_view.specs.Served.{served_as, served_of, shown, shown_name}
use Rattle.release_view.specs.Views.{Viewed, has_live, is_live_of, is_shown_as, served_in, table_in}
use Rattle.release_view.specs.declared.known.KnownVersion.{KnownVersion}
use Rattle.release_view.specs.declared.served.ServedVersion.{ServedVersion}
use Rattle.request_body.proofs.GivenLemmas.{gives_fitting}
use Rattle.request_body.specs.Places.{IsAbout, IsNamedByBody, Place, key_of, place_of}
use Rattle.request_body.specs.Writes.{AreGiven, held_fields}
use Rattle.request_target.specs.Targets.{Asked, AsksFor, Resource, asked_in, fits_scope, resource_in, inside_scope, object_in_scope, releases, gates, groups, group, resources, everywhere, inside, object}
use Rattle.storage_version.proofs.BackLemmas.{fits_storage}
use Rattle.storage_version.specs.Kept.{IsChangeOf}
use Rattle.storage_version.specs.Standing.{IsLive}
use Rattle.storage_version.specs.Storage.{storage_table_in}
use Rattle.stored_change.specs.Changes.{KeepsCreation, HasRoomFor}
use Rattle.served_steps.specs.Laws.{ChangesAreStorable}

no_asked : (a : Asked) → None ≡ Some a → ⊥
no_asked a e = cc

same_asked : (a b : Asked) → Some a ≡ Some b → a ≡ b
same_asked a b e = cc

no_place : (p : Place) → None ≡ Some p → ⊥
no_place p e = cc

same_place : (p r : Place) → Some p ≡ Some r → p ≡ r
same_place p r e = cc

no_resource : (r : Resource) → None ≡ Some r → ⊥
no_resource r e = cc

same_resource : (r o : Resource) → Some r ≡ Some o → r ≡ o
same_resource r o e = cc

same_version : (s t : ServedVersion) → Some s ≡ Some t → s ≡ t
same_version s t e = cc

no_version : (s : ServedVersion) → None ≡ Some s → ⊥
no_version s e = cc

same_table : (s t : VersionTable) → Some s ≡ Some t → s ≡ t
same_table s t e = cc

picked : (b : Bool) (x a : Asked) → cond b (Some x) None ≡ Some a → x ≡ a
picked true x a e = same_asked x a e
picked false x a e = absurd (no_asked a e)

-- ---- what a view serves is live

-- the resource is a served version of the view, with its table
pub record IsServedIn (versions : List KnownVersion) (r : Resource) : Type 0 where
  pub version : KnownVersion
  pub among : Contains versions version
  pub table : version.table ≡ r.table
  pub named : shown version ≡ r.served
  pub served : version.served ≡ true

is_served : (v : KnownVersion) (b : Bool) (s : ServedVersion) → v.served ≡ b → cond b (Some (shown v)) None ≡ Some s → (shown v ≡ s) × (v.served ≡ true)
is_served v true s is e = (same_version (shown v) s e, is)
is_served v false s is e = absurd (no_version s e)

live_there : (g r : List ℕ) (versions : List KnownVersion) (v : KnownVersion) → Contains versions v → is_live_of g r v ≡ true → has_live versions g r ≡ true
live_there g r [] v there live = absurd (none_there v there)
live_there g r (w ∷ ws) v there live = ⊎_elim
    (λ (same : w ≡ v). first (is_live_of g r w) (has_live ws g r) (subst (λ (u : KnownVersion). is_live_of g r u ≡ true) (sym same) live))
    (λ (rest : Contains ws v). second (is_live_of g r w) (has_live ws g r) (live_there g r ws v rest live))
    (head_or_tail w v ws there)
  where
    first : (a b : Bool) → a ≡ true → (a || b) ≡ true
    first true b h = refl
    first false b h = absurd (false≢true h)

    second : (a b : Bool) → b ≡ true → (a || b) ≡ true
    second true b h = refl
    second false b h = h

three_true : (a b c : Bool) → a ≡ true → b ≡ true → c ≡ true → (a && b && c) ≡ true
three_true true true true h k l = refl
three_true true true false h k l = l
three_true true false c h k l = k
three_true false b c h k l = h

module _ (view : Viewed) (finds : FindsEach view.versions) (kept : IsKept view) where
  table_first : (name : GroupVersionResource) (v : KnownVersion) (t : VersionTable) → Contains view.versions v → shown_name (shown v) ≡ name → table_in view.versions name ≡ Some t → v.table ≡ t
  table_first name v t among named table =
      let first = subst (λ (n : GroupVersionResource). table_in view.versions n ≡ Some v.table) named (ap (option_map (λ (w : KnownVersion). w.table)) (finds.by_name v among)) in
      same_table v.table t (sym first ∙ table)

  served_by : (name : GroupVersionResource) (r : Resource) (s : Option ServedVersion) (t : Option VersionTable) → served_in view.versions name ≡ s → table_in view.versions name ≡ t
      → option_and_then (λ (w : ServedVersion). option_map (λ (u : VersionTable). record { served = w; table = u }) t) s ≡ Some r → IsServedIn view.versions r
  served_by name r None t es et h = absurd (no_resource r h)
  served_by name r (Some s) None es et h = absurd (no_resource r h)
  served_by name r (Some s) (Some t) es et h =
      let (there, passes) = found (is_shown_as name) (served_of view.versions) s es in
      let (v, among, as_shown) = given_of served_as view.versions s there in
      let is = is_served v v.served s refl as_shown in
      let named : shown_name (shown v) ≡ name = named_of name v (subst (λ (u : ServedVersion). is_shown_as name u ≡ true) (sym is.0) passes) in
      subst (IsServedIn view.versions) (same_resource (record { served = s; table = t }) r h)
      (record { version = v; among = among; table = table_first name v t among named et; named = is.0; served = is.1 })

  served_here : (name : GroupVersionResource) (r : Resource) → resource_in view name ≡ Some r → IsServedIn view.versions r
  served_here name r h = served_by name r (served_in view.versions name) (table_in view.versions name) refl refl h

  at_place : (p place : Place) (a x : Asked) → IsServedIn view.versions p.of → x ≡ a → place_of x ≡ Some p → place_of a ≡ Some place → IsServedIn view.versions place.of
  at_place p place a x known e of placed = subst (λ (q : Place). IsServedIn view.versions q.of) (same_place p place (sym of ∙ (ap place_of e ∙ placed))) known

  from_all : (place : Place) (a : Asked) (o : Option Resource) → ((r : Resource) → o ≡ Some r → IsServedIn view.versions r) → option_map everywhere o ≡ Some a → place_of a ≡ Some place
      → IsServedIn view.versions place.of
  from_all place a None known h placed = absurd (no_asked a h)
  from_all place a (Some r) known h placed = at_place (at_all r) place a (everywhere r) (known r refl) (same_asked (everywhere r) a h) refl placed

  from_inside : (namespace : List ℕ) (place : Place) (a : Asked) (o : Option Resource) → ((r : Resource) → o ≡ Some r → IsServedIn view.versions r)
      → option_and_then (λ r. inside_scope r namespace) o ≡ Some a → place_of a ≡ Some place → IsServedIn view.versions place.of
  from_inside namespace place a None known h placed = absurd (no_asked a h)
  from_inside namespace place a (Some r) known h placed =
      at_place (at_inside r namespace) place a (inside r namespace) (known r refl) (picked (fits_scope r namespace) (inside r namespace) a h) refl placed

  from_object : (namespace name : List ℕ) (place : Place) (a : Asked) (o : Option Resource) → ((r : Resource) → o ≡ Some r → IsServedIn view.versions r)
      → option_and_then (λ r. object_in_scope r namespace name) o ≡ Some a → place_of a ≡ Some place → IsServedIn view.versions place.of
  from_object namespace name place a None known h placed = absurd (no_asked a h)
  from_object namespace name place a (Some r) known h placed =
      at_place (at_object r namespace name) place a (object r namespace name) (known r refl) (picked (fits_scope r namespace) (object r namespace name) a h) refl placed

  placed_by : (route : RouteName) (a : Asked) (place : Place) → asked_in view route ≡ Some a → place_of a ≡ Some place → IsServedIn view.versions place.of
  placed_by version_page a place h placed = absurd (no_place place (ap place_of (same_asked releases a h) ∙ placed))
  placed_by metrics_page a place h placed = absurd (no_place place (ap place_of (same_asked gates a h) ∙ placed))
  placed_by group_list a place h placed = absurd (no_place place (ap place_of (same_asked groups a h) ∙ placed))
  placed_by (group_page name) a place h placed =
      absurd (no_place place (ap place_of (picked _ (group name) a h) ∙ placed))
  placed_by (resource_list g v) a place h placed =
      absurd (no_place place (ap place_of (picked _ (resources g v) a h) ∙ placed))
  placed_by (all_objects of) a place h placed = from_all place a (resource_in view of) (served_here of) h placed
  placed_by (objects_inside of namespace) a place h placed = from_inside namespace place a (resource_in view of) (served_here of) h placed
  placed_by (one_object of namespace name) a place h placed = from_object namespace name place a (resource_in view of) (served_here of) h placed

  placed_in : (route : Option RouteName) (asked : Option Asked) (a : Asked) (place : Place) → asked ≡ Some a → asked ≡ option_and_then (asked_in view) route → place_of a ≡ Some place
      → IsServedIn view.versions place.of
  placed_in None asked a place is by placed = absurd (no_asked a (sym by ∙ is))
  placed_in (Some route) asked a place is by placed = placed_by route a place (sym by ∙ is) placed

  -- the kind of a place is live
  place_live : (place : Place) (name : List ℕ) → IsServedIn view.versions place.of → IsLive view.versions (key_of place name)
  place_live place name known =
      let v = known.version in
      let live : v.live ≡ true = All-contains (λ (w : KnownVersion). IsTrue w.served → IsTrue w.live) view.versions v kept.live known.among known.served in
      let of_group : v.table.group ≡ place.of.served.group = ap (λ (s : ServedVersion). s.group) known.named in
      let of_resource : v.table.resource ≡ place.of.served.resource = ap (λ (s : ServedVersion). s.resource) known.named in
      live_there place.of.served.group place.of.served.resource view.versions v known.among
      (three_true v.live (bytes_eq v.table.group place.of.served.group) (bytes_eq v.table.resource place.of.served.resource) live
      ((bytes_eq-Decides v.table.group place.of.served.group).1 of_group) ((bytes_eq-Decides v.table.resource place.of.served.resource).1 of_resource))

  -- fields that are given fit the storage version
  given_stored : (back : List KnownVersion) (s : State) (q : Request) (place : Place) (name : List ℕ) (fields : List FieldPair) → IsServedIn view.versions place.of → AreGiven s q place name fields
      → (table : VersionTable) → storage_table_in back view.versions place.of.served.group place.of.served.resource ≡ Some table → Fits table.rows fields
  given_stored back s q place name fields known given table stored =
      let v = known.version in
      let lawful : AreLawful place.of.table.rows = subst (λ (t : VersionTable). AreLawful t.rows) known.table (All-contains (λ (w : KnownVersion). AreLawful w.table.rows) view.versions v kept.lawful known.among) in
      let fits : Fits place.of.table.rows fields = gives_fitting place.of.table.rows given.tree (held_fields given.stored) lawful fields given.given in
      let of_group : v.table.group ≡ place.of.served.group = ap (λ (s : ServedVersion). s.group) known.named in
      let of_resource : v.table.resource ≡ place.of.served.resource = ap (λ (s : ServedVersion). s.resource) known.named in
      let at_group = subst (λ (g : List ℕ). storage_table_in back view.versions g place.of.served.resource ≡ Some table) (sym of_group) stored in
      let at_both = subst (λ (r : List ℕ). storage_table_in back view.versions v.table.group r ≡ Some table) (sym of_resource) at_group in
      fits_storage back view.versions kept.alike v fields table known.among (subst (λ (t : VersionTable). Fits t.rows fields) (sym known.table) fits) at_both

-- ---- what isn't refused

module _ (s : State) (q : Request) (a : Asked) (free : IsNotRefused s q (Some a)) (place : Place) (name : List ℕ) (about : IsAbout q a place name) where
  -- there is a next revision
  more_left : WouldChange s q place name q.verb → s.revision < last_revision
  more_left would = ⊎_elim
      (λ (less : s.revision < last_revision). less)
      (λ (full : last_revision ≤ s.revision).
      let passes = (recursion_from_All (Passes s q (Some a)) refusals free).1.1.1.1.1.1.1.1.1.1.1.1.1.0 in
      absurd (passes ended_answer (place, name, about, would, full, refl)))
      (cases_lt s.revision last_revision)

  -- a new record has room
  room_left : q.verb ≡ Post → s.records < most_keys
  room_left post = ⊎_elim
      (λ (less : s.records < most_keys). less)
      (λ (full : most_keys ≤ s.records).
      let passes = (recursion_from_All (Passes s q (Some a)) refusals free).1.1.1.1.1.1.1.1.1.1.1.1.0 in
      absurd (passes full_answer (post, full, refl)))
      (cases_lt s.records most_keys)

  no_post : q.verb ≡ Delete → q.verb ≡ Post → ⊥
  no_post delete post = let e : Delete ≡ Post = sym delete ∙ post in cc

  -- what is to go is named by its path
  own_name : (own : Option (List ℕ)) → place.own ≡ own → q.verb ≡ Delete → MatchOption own ((q.verb ≡ Post) × IsNamedByBody q.body name) (λ own. name ≡ own) → place.own ≡ Some name
  own_name None is delete named = absurd (no_post delete named.0)
  own_name (Some own) is delete named = is ∙ ap Some (sym named)

  -- and it is there
  was_there : q.verb ≡ Delete → HasKey s.objects (key_of place name)
  was_there delete = ⊎_elim
      (λ (has : HasKey s.objects (key_of place name)). has)
      (λ (none : HasKey s.objects (key_of place name) → ⊥).
      let passes = (recursion_from_All (Passes s q (Some a)) refusals free).1.1.1.1.1.1.1.1.0 in
      absurd (passes (no_object_answer place.of name) (place, name, about, own_name place.own refl delete about.named, none, refl)))
      (has_or_not s.objects (key_of place name))

-- ---- the three changes

same_object : (x y : Object) → Some x ≡ Some y → x ≡ y
same_object x y e = cc

object_or_none : (x : Object) → Some x ≡ None → ⊥
object_or_none x e = cc

-- what is made of a key is one of three changes
pub record IsMade (s : State) (q : Request) (place : Place) (name : List ℕ) (change : Change) : Type 0 where
  pub at : key_of place name ≡ change.key
  pub next : (x : Object) → change.object ≡ Some x → x.revision ≡ s.revision + 1
  pub given : (x : Object) → change.object ≡ Some x → AreGiven s q place name x.fields
  pub held : change.object ≡ None → HasKey s.objects change.key
  pub created : KeepsCreation s change
  pub room : HasRoomFor s change

module _ (s : State) (order : AreInKeyOrder s.objects) (q : Request) (a : Asked) (free : IsNotRefused s q (Some a)) (place : Place) (name : List ℕ) (about : IsAbout q a place name) where
  created_made : q.verb ≡ Post → (made : Object) → AreGiven s q place name made.fields → made.created ≡ s.revision + 1 → made.revision ≡ s.revision + 1
      → IsMade s q place name (record { key = key_of place name; object = Some made })
  created_made post made given created revision = record {
    at = refl;
    next = λ x is. ap (λ (o : Object). o.revision) (sym (same_object made x is)) ∙ revision;
    given = λ x is. subst (λ (o : Object). AreGiven s q place name o.fields) (same_object made x is) given;
    held = λ none. absurd (object_or_none made none);
    created = record {
      stored = λ x old is holds. absurd (was_absent s q a free place name about post (old, holds));
      fresh = λ x is none. ap (λ (o : Object). o.created) (sym (same_object made x is)) ∙ created;
    };
    room = record {
      room = λ none. room_left s q a free place name about post;
      more = more_left s q a free place name about (subst (λ (v : Verb). WouldChange s q place name v) (sym post) tt);
    };
  }

  updated_made : q.verb ≡ Put → (old made : Object) → Holds s.objects (key_of place name) old → AreGiven s q place name made.fields → made.fields ≢ old.fields → made.created ≡ old.created → made.revision ≡ s.revision + 1
      → IsMade s q place name (record { key = key_of place name; object = Some made })
  updated_made put old made holds given other created revision = record {
    at = refl;
    next = λ x is. ap (λ (o : Object). o.revision) (sym (same_object made x is)) ∙ revision;
    given = λ x is. subst (λ (o : Object). AreGiven s q place name o.fields) (same_object made x is) given;
    held = λ none. absurd (object_or_none made none);
    created = record {
      stored = λ x was is there. ap (λ (o : Object). o.created) (sym (same_object made x is)) ∙ (created ∙ ap (λ (o : Object). o.created) (same_holds s.objects (key_of place name) old was order holds there));
      fresh = λ x is none. absurd (none (old, holds));
    };
    room = record {
      room = λ none. absurd (none (old, holds));
      more = more_left s q a free place name about (subst (λ (v : Verb). WouldChange s q place name v) (sym put) (old, made.fields, holds, given, other));
    };
  }

  deleted_made : q.verb ≡ Delete → IsMade s q place name (record { key = key_of place name; object = None })
  deleted_made delete = record {
    at = refl;
    next = λ x is. absurd (no_object_here x is);
    given = λ x is. absurd (no_object_here x is);
    held = λ none. was_there s q a free place name about delete;
    created = record {
      stored = λ x was is there. absurd (no_object_here x is);
      fresh = λ x is none. absurd (no_object_here x is);
    };
    room = record {
      room = λ none. absurd (none (was_there s q a free place name about delete));
      more = more_left s q a free place name about (subst (λ (v : Verb). WouldChange s q place name v) (sym delete) tt);
    };
  }

  written_made : (verb : Verb) → q.verb ≡ verb → (y : _) (c : Option Change) (change : Change) → IsWritten s q verb place name y c → c ≡ Some change → IsMade s q place name change
  written_made Post is y c change h of =
      subst (IsMade s q place name) (same_change (record { key = key_of place name; object = Some h.0 }) change (sym h.4 ∙ of)) (created_made is h.0 h.1 h.2 h.3)
  written_made Put is y c change (old, holds, inl h) of =
      subst (IsMade s q place name) (same_change (record { key = key_of place name; object = Some h.0 }) change (sym h.5 ∙ of)) (updated_made is old h.0 holds h.1 h.2 h.3 h.4)
  written_made Put is y c change (old, holds, inr h) of = absurd (no_change_here change (sym h.1 ∙ of))
  written_made Delete is y c change h of =
      subst (IsMade s q place name) (same_change (record { key = key_of place name; object = None }) change (sym h.0 ∙ of)) (deleted_made is)
  written_made Get is y c change h of = absurd h
  written_made Patch is y c change h of = absurd h
  written_made Head is y c change h of = absurd h
  written_made Other is y c change h of = absurd h

-- ---- what is decided

-- the place that a change is made at, which is of a served version
pub record IsMadeAt (m : Machine) (s : State) (q : Request) (change : Change) : Type 0 where
  pub place : Place
  pub name : List ℕ
  pub known : IsServedIn m.view.versions place.of
  pub made : IsMade s q place name change

module _ (m : Machine) (finds : FindsEach m.view.versions) (kept : IsKept m.view) (s : State) (q : Request) (order : AreInKeyOrder s.objects) where
  granted_made : (route : Option RouteName) (asked : Option Asked) (a : Asked) (y : _) (c : Option Change) (change : Change) → asked ≡ Some a → asked ≡ option_and_then (asked_in m.view) route → IsNotRefused s q (Some a)
      → IsGranted m s q a y c → c ≡ Some change → IsMadeAt m s q change
  granted_made route asked a y c change is by free (inl h) of = absurd (no_change_here change (sym h.2 ∙ of))
  granted_made route asked a y c change is by free (inr h) of = record {
    place = h.0;
    name = h.1;
    known = placed_in m.view finds kept route asked a h.0 is by h.2.placed;
    made = written_made s order q a free h.0 h.1 h.2 q.verb refl y c change h.3 of;
  }

  pub decides_made : (asked : Option Asked) → AsksFor m.view q.path asked → (y : _) (c : Option Change) (change : Change) → Decides m s q asked y c → c ≡ Some change → IsMadeAt m s q change
  decides_made asked asks y c change (inl h) of = absurd (no_change_here change (sym h.1 ∙ of))
  decides_made asked asks y c change (inr (free, (a, is, h))) of =
      granted_made asks.0 asked a y c change is asks.2 (subst (λ (z : Option Asked). IsNotRefused s q z) is free) h of

  pub decided_made : (d : Decided) (change : Change) → IsDecided m s q d → d.change ≡ Some change → IsMadeAt m s q change
  decided_made d change decided of = decides_made decided.asked decided.asks decided.answer d.change change decided.decides of

  pub storable_made : (back : List KnownVersion) (change : Change) → IsMadeAt m s q change → IsChangeOf back m.view.versions s change
  storable_made back change h =
      let made = h.made in
      record {
        live = subst (IsLive m.view.versions) made.at (place_live m.view finds kept h.place h.name h.known);
        next = made.next;
        fits = λ object table is stored.
            given_stored m.view finds kept back s q h.place h.name object.fields h.known (made.given object is) table
            (subst (λ (k : Key). storage_table_in back m.view.versions k.group k.resource ≡ Some table) (sym made.at) stored);
        held = made.held;
      }

pub are_storable : (back : Viewed) (m : Machine) → FindsEach m.view.versions → IsKept m.view → ChangesAreStorable back m
are_storable back m finds kept = λ history one s q d change order fit decided is.
    let h = decided_made m finds kept s q order d change decided is in
    record {
      of_server = storable_made m finds kept s q order back.versions change h;
      created = h.made.created;
      room = h.made.room;
    }
