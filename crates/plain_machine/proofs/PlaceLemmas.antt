-- What holds of the place that a request asks for.
use Rattle.std.proofs.Common.{◌≡◌, inl, inr, ℕ, List, [], Bool, true, false, Some, None, refl, sym, ◌∙◌, ap, subst}
use Rattle.std.specs.Prelude.{if◌then◌else◌}
use Rattle.std.proofs.lemmas.Str.{IsUtf8-nil}
use Rattle.conversion.proofs.FaultLemmas.{fits_alike}
use Rattle.fields.specs.Fits.{Fits}
use Rattle.fields.specs.declared.map.FieldPair.{FieldPair}
use Rattle.fields.specs.declared.table.VersionTable.{VersionTable}
use Rattle.http_front.specs.declared.request.Request.{Request}
use Rattle.http_front.specs.declared.request.Verb.{Verb}
use Rattle.http_front.specs.declared.request.Verb.TheVariants.{Get, Post}
use Rattle.object_journal.specs.declared.key.Key.{Key}
use Rattle.object_pages.proofs.FittingLemmas.{held_fits}
use Rattle.object_pages.specs.Fitting.{FitVersions}
use Rattle.object_state.specs.Objects.{Holds}
use Rattle.object_state.specs.State.{State}
use Rattle.object_state.specs.declared.object.Change.{Change}
use Rattle.object_state.specs.declared.object.Object.{Object}
use Rattle.object_state.specs.declared.object.Stored.{Stored}
use Rattle.release_view.specs.Spelling.{SpellAlike}
use Rattle.release_view.specs.declared.known.KnownVersion.{KnownVersion}
use Rattle.release_view.specs.declared.served.ServedVersion.{ServedVersion}
use Rattle.request_body.specs.Places.{Place, place_of}
use Rattle.request_target.specs.Methods.{Allows, methods}
use Rattle.request_target.specs.declared.target.Methods.TheVariants.{Read, Collection}
use Rattle.request_target.specs.Targets.{Asked, Resource, releases, gates, groups, group, resources, everywhere, inside, object}
use Rattle.request_target.specs.Told.{IsResourceIn, IsTold}
use Rattle.plain_machine.proofs.PassLemmas.{same_place}
use Rattle.plain_machine.specs.Calls.{AreTexts, IsMethodAt}
use Rattle.plain_machine.specs.Heads.{PassesHead}
use Rattle.plain_machine.specs.Reading.{ReadsPage}
use Rattle.plain_machine.specs.Sound.{FitsEach, IsSound, IsWithin}

abbrev pub at_all : Resource → Place
at_all of = record { of = of; namespace = []; own = None }

abbrev pub at_inside : Resource → List ℕ → Place
at_inside of namespace = record { of = of; namespace = namespace; own = None }

abbrev pub at_object : Resource → List ℕ → List ℕ → Place
at_object of namespace name = record { of = of; namespace = namespace; own = Some name }

some_same : (x y : Place) → Some x ≡ Some y → x ≡ y
some_same x y e = cc

none_some : (x : Place) → None ≡ Some x → ⊥
none_some x e = cc

-- ---- methods

not_read : (b : Bool) (verb : Verb) → Allows (if b then Read else Collection) verb → ¬ (verb ≡ Get) → verb ≡ Post
not_read true verb h other = absurd (other h)
not_read false verb (inl h) other = absurd (other h)
not_read false verb (inr h) other = h

posts : (verb : Verb) → verb ≡ Post → IsMethodAt None verb
posts verb e = subst (λ (v : Verb). IsMethodAt None v) (sym e) refl

method_of : (a : Asked) (verb : Verb) → Allows (methods a) verb → ¬ ReadsPage verb a → (place : Place) × (place_of a ≡ Some place) × IsMethodAt place.own verb
method_of releases verb h other = absurd (other h)
method_of gates verb h other = absurd (other h)
method_of groups verb h other = absurd (other h)
method_of (group name) verb h other = absurd (other h)
method_of (resources g v) verb h other = absurd (other h)
method_of (everywhere of) verb h other = (at_all of, refl, posts verb (not_read of.served.namespaced verb h other))
method_of (inside of namespace) verb h other = (at_inside of namespace, refl, posts verb (not_read false verb h other))
method_of (object of namespace name) verb (inl h) other = (at_object of namespace name, refl, subst (λ (v : Verb). IsMethodAt (Some name) v) (sym h) refl)
method_of (object of namespace name) verb (inr (inl h)) other = (at_object of namespace name, refl, subst (λ (v : Verb). IsMethodAt (Some name) v) (sym h) refl)
method_of (object of namespace name) verb (inr (inr h)) other = (at_object of namespace name, refl, subst (λ (v : Verb). IsMethodAt (Some name) v) (sym h) refl)

pub method_at : (q : Request) (a : Asked) (place : Place) → PassesHead q a → ¬ ReadsPage q.verb a → Some place ≡ place_of a → IsMethodAt place.own q.verb
method_at q a place head other placed =
    let m = method_of a q.verb head.allowed other in
    subst (λ (p : Place). IsMethodAt p.own q.verb) (same_place a m.0 place m.1 (sym placed)) m.2

pub some_place : (q : Request) (a : Asked) → PassesHead q a → ¬ ReadsPage q.verb a → None ≡ place_of a → ⊥
some_place q a head other none =
    let m = method_of a q.verb head.allowed other in
    none_some m.0 (none ∙ m.1)

-- ---- texts

texts_of : (versions : List KnownVersion) (a : Asked) (place : Place) → IsTold versions a → place_of a ≡ Some place → AreTexts place
texts_of versions releases place told placed = absurd (none_some place placed)
texts_of versions gates place told placed = absurd (none_some place placed)
texts_of versions groups place told placed = absurd (none_some place placed)
texts_of versions (group name) place told placed = absurd (none_some place placed)
texts_of versions (resources g v) place told placed = absurd (none_some place placed)
texts_of versions (everywhere of) place told placed =
    let e : at_all of ≡ place = some_same (at_all of) place placed in
    subst (λ (p : Place). AreTexts p) e (record { namespace = IsUtf8-nil; own = tt })
texts_of versions (inside of namespace) place told placed =
    let e : at_inside of namespace ≡ place = some_same (at_inside of namespace) place placed in
    subst (λ (p : Place). AreTexts p) e (record { namespace = told.1; own = tt })
texts_of versions (object of namespace name) place told placed =
    let e : at_object of namespace name ≡ place = some_same (at_object of namespace name) place placed in
    subst (λ (p : Place). AreTexts p) e (record { namespace = told.1; own = told.2 })

pub texts_at : (versions : List KnownVersion) (a : Asked) (place : Place) → IsTold versions a → Some place ≡ place_of a → AreTexts place
texts_at versions a place told placed = texts_of versions a place told (sym placed)

-- ---- versions

known_of : (versions : List KnownVersion) (a : Asked) (place : Place) → IsTold versions a → place_of a ≡ Some place → IsResourceIn versions place.of
known_of versions releases place told placed = absurd (none_some place placed)
known_of versions gates place told placed = absurd (none_some place placed)
known_of versions groups place told placed = absurd (none_some place placed)
known_of versions (group name) place told placed = absurd (none_some place placed)
known_of versions (resources g v) place told placed = absurd (none_some place placed)
known_of versions (everywhere of) place told placed =
    let e : at_all of ≡ place = some_same (at_all of) place placed in
    subst (λ (p : Place). IsResourceIn versions p.of) e told
known_of versions (inside of namespace) place told placed =
    let e : at_inside of namespace ≡ place = some_same (at_inside of namespace) place placed in
    subst (λ (p : Place). IsResourceIn versions p.of) e told.0
known_of versions (object of namespace name) place told placed =
    let e : at_object of namespace name ≡ place = some_same (at_object of namespace name) place placed in
    subst (λ (p : Place). IsResourceIn versions p.of) e told.0

pub known_at : (versions : List KnownVersion) (a : Asked) (place : Place) → IsTold versions a → Some place ≡ place_of a → IsResourceIn versions place.of
known_at versions a place told placed = known_of versions a place told (sym placed)

pub fit_at : (versions : List KnownVersion) (objects : List Stored) (r : Resource) → FitVersions versions objects → IsResourceIn versions r
    → (key : Key) (found : Object) → Holds objects key found → key.group ≡ r.served.group → key.resource ≡ r.served.resource → Fits r.table.rows found.fields
fit_at versions objects r fit known key found holds of_g of_r = held_fits versions objects fit r known (record { key = key; object = found }) holds of_g of_r

-- what fits the one version of a resource fits each
pub fits_each : (versions : List KnownVersion) (r : Resource) (key : Key) (fields : List FieldPair) → SpellAlike versions → IsResourceIn versions r
    → key.group ≡ r.served.group → key.resource ≡ r.served.resource → Fits r.table.rows fields → FitsEach versions key fields
fits_each versions r key fields alike known of_g of_r fits = λ v among of_group of_resource.
    let g : known.version.table.group ≡ v.table.group = ap (λ (s : ServedVersion). s.group) known.served ∙ (sym of_g ∙ sym of_group) in
    let e : known.version.table.resource ≡ v.table.resource = ap (λ (s : ServedVersion). s.resource) known.served ∙ (sym of_r ∙ sym of_resource) in
    fits_alike known.version.table.rows v.table.rows fields (alike known.version v known.among among g e)
    (subst (λ (t : VersionTable). Fits t.rows fields) (sym known.table) fits)

pub sound_at : (versions : List KnownVersion) (r : Resource) (s : State) (change : Change) → SpellAlike versions → IsResourceIn versions r
    → change.key.group ≡ r.served.group → change.key.resource ≡ r.served.resource → IsWithin s change
    → ((found : Object) → change.object ≡ Some found → Fits r.table.rows found.fields) → IsSound versions s change
sound_at versions r s change alike known of_g of_r within fits = record {
  within = within;
  fits = λ found is. fits_each versions r change.key found.fields alike known of_g of_r (fits found is);
}
