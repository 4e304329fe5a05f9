-- What the entries listed at a name say of all.
use Rattle.std.proofs.Common.{ℕ, ◌≡◌, ◌≤◌, ◌↔◌, List, [], Bool, Option, refl, sym, subst, ◌∙◌}
use Rattle.std.specs.Prelude.{All, Any, IsTrue, max}
use Rattle.basis.proofs.ElementLemmas.{Any-weaker}
use Rattle.fields.specs.declared.field.Field.{Field}
use Rattle.fields.specs.declared.field.Spell.{Spell}
use Rattle.std.specs.Borrow.{Bor}
use Rattle.std.specs.Global.{Vec}
use Rattle.gate_spec.specs.declared.entry.GateEntry.{GateEntry}
use Rattle.lifecycle.specs.Entry.{GroupVersionResource, subject, IsIntroduction, IsKnownOf}
use Rattle.lifecycle.specs.declared.entry.ApiEntry.{ApiEntry}
use Rattle.schemas.specs.ApiRules.{name_of, IsForgetting, IsForgotten}
use Rattle.field_rules.specs.Keys.{gate_of, resource_of_api, version_of_api}
use Rattle.listing.specs.Keys.{resource_of_field, version_of_spell}
use Rattle.listing.specs.Listing.{Listed, lent_in, listed_at, IsListing, HasLent, EachLent}
use Rattle.schemas.specs.Pairs.{IntroducesVersionOf, IsPair, IsOfField, IsOfVersion, IsSpelling, SpellsPair}
use Rattle.field_rules.specs.Answers.{IsSpelledIn, PairsWith}
use Rattle.schemas.specs.Dated.{Dated}
use Rattle.schemas.specs.SpellRules.{FitsType}
use Rattle.basis.proofs.NameLemmas.{same_parts}
use Rattle.listing.proofs.NameLemmas.{parts_same}
use Rattle.listing.proofs.ListingLemmas.{any_found, all_found}

pub versioned_by : (xs ys : List ApiEntry) (m : Listed ApiEntry) (o : Option (Bor (Vec (Bor ApiEntry)))) (b : Bool) (p q g r : List ℕ) (by : ℕ) → IsListing resource_of_api xs m → xs ≡ ys → lent_in o ≡ listed_at m p q [] → p ≡ g → q ≡ r → (IsTrue b ↔ HasLent (λ x. IsIntroduction x.change × (x.since ≤ by)) o) → IsTrue b ↔ Any (λ x. IntroducesVersionOf g r x × (x.since ≤ by)) ys
versioned_by xs ys m o b p q g r by listing same is at_g at_r test =
    let P : ApiEntry → Type 0 = λ x. IsIntroduction x.change × (x.since ≤ by) in
    let Q : ApiEntry → Type 0 = λ x. IntroducesVersionOf g r x × (x.since ≤ by) in
    let both = any_found P Q resource_of_api xs m o p q [] listing is (λ (x : ApiEntry). (
      λ (h : Q x). (same_parts x.group x.resource [] p q [] (h.0.of_group ∙ sym at_g) (h.0.of_resource ∙ sym at_r) refl, (h.0.introduces, h.1)),
      λ h. let parts = parts_same x.group x.resource [] p q [] h.0 in (record { of_group = parts.0 ∙ at_g; of_resource = parts.1 ∙ at_r; introduces = h.1.0 }, h.1.1),
    )) in
    subst (λ (l : List ApiEntry). IsTrue b ↔ Any Q l) same (λ t. both.0 (test.0 t), λ any. test.1 (both.1 any))

pub from_start : (xs ys : List ApiEntry) (m : Listed ApiEntry) (o : Option (Bor (Vec (Bor ApiEntry)))) (b : Bool) (p q g r : List ℕ) (since : ℕ) → IsListing resource_of_api xs m → xs ≡ ys → lent_in o ≡ listed_at m p q [] → p ≡ g → q ≡ r → (IsTrue b ↔ EachLent (λ x. IsIntroduction x.change → since ≤ x.since) o) → IsTrue b ↔ All (λ x. IntroducesVersionOf g r x → since ≤ x.since) ys
from_start xs ys m o b p q g r since listing same is at_g at_r test =
    let P : ApiEntry → Type 0 = λ x. IsIntroduction x.change → since ≤ x.since in
    let Q : ApiEntry → Type 0 = λ x. IntroducesVersionOf g r x → since ≤ x.since in
    let both = all_found P Q resource_of_api xs m o p q [] listing is (λ (x : ApiEntry). (
      λ (h : Q x) t i. let parts = parts_same x.group x.resource [] p q [] t in h (record { of_group = parts.0 ∙ at_g; of_resource = parts.1 ∙ at_r; introduces = i }),
      λ h (i : IntroducesVersionOf g r x). h (same_parts x.group x.resource [] p q [] (i.of_group ∙ sym at_g) (i.of_resource ∙ sym at_r) refl) i.introduces,
    )) in
    subst (λ (l : List ApiEntry). IsTrue b ↔ All Q l) same (λ t. both.0 (test.0 t), λ every. test.1 (both.1 every))

pub gate_known : (xs ys : List GateEntry) (m : Listed GateEntry) (o : Option (Bor (Vec (Bor GateEntry)))) (b : Bool) (p g : List ℕ) (by : ℕ) → IsListing gate_of xs m → xs ≡ ys → lent_in o ≡ listed_at m p [] [] → p ≡ g → (IsTrue b ↔ HasLent (λ x. x.since ≤ by) o) → IsTrue b ↔ Any (λ x. (x.name ≡ g) × (x.since ≤ by)) ys
gate_known xs ys m o b p g by listing same is at_g test =
    let P : GateEntry → Type 0 = λ x. x.since ≤ by in
    let Q : GateEntry → Type 0 = λ x. (x.name ≡ g) × (x.since ≤ by) in
    let both = any_found P Q gate_of xs m o p [] [] listing is (λ (x : GateEntry). (
      λ (h : Q x). (same_parts x.name [] [] p [] [] (h.0 ∙ sym at_g) refl refl, h.1),
      λ h. ((parts_same x.name [] [] p [] [] h.0).0 ∙ at_g, h.1),
    )) in
    subst (λ (l : List GateEntry). IsTrue b ↔ Any Q l) same (λ t. both.0 (test.0 t), λ any. test.1 (both.1 any))

pub forgotten_by : (xs ys : List ApiEntry) (m : Listed ApiEntry) (o : Option (Bor (Vec (Bor ApiEntry)))) (b : Bool) (g v r : List ℕ) (by : ℕ) → IsListing version_of_api xs m → xs ≡ ys → lent_in o ≡ listed_at m g v r → (IsTrue b ↔ HasLent (λ x. IsForgetting x.change × (x.since ≤ by)) o) → IsTrue b ↔ IsForgotten ys (name_of g v r) by
forgotten_by xs ys m o b g v r by listing same is test =
    let P : ApiEntry → Type 0 = λ x. IsForgetting x.change × (x.since ≤ by) in
    let Q : ApiEntry → Type 0 = λ x. IsKnownOf (name_of g v r) by x × IsForgetting x.change in
    let both = any_found P Q version_of_api xs m o g v r listing is (λ (x : ApiEntry). (
      λ (h : Q x). (same_parts x.group x.version x.resource g v r h.0.group h.0.version h.0.resource, (h.1, h.0.dated)),
      λ h. let parts = parts_same x.group x.version x.resource g v r h.0 in (record { group = parts.0; version = parts.1; resource = parts.2; dated = h.1.1 }, h.1.0),
    )) in
    subst (λ (l : List ApiEntry). IsTrue b ↔ Any Q l) same (λ t. both.0 (test.0 t), λ any. test.1 (both.1 any))

pub spelling_in : (xs ys : List Spell) (m : Listed Spell) (o : Option (Bor (Vec (Bor Spell)))) (b : Bool) (p q t : List ℕ) (x : ApiEntry) (id : List ℕ) → IsListing version_of_spell xs m → xs ≡ ys → lent_in o ≡ listed_at m p q t → p ≡ x.group → q ≡ x.version → t ≡ x.resource → (IsTrue b ↔ HasLent (λ s. s.field ≡ id) o) → IsTrue b ↔ Any (λ s. IsOfVersion (subject x) s × (s.field ≡ id)) ys
spelling_in xs ys m o b p q t x id listing same is at_g at_v at_r test =
    let P : Spell → Type 0 = λ s. s.field ≡ id in
    let Q : Spell → Type 0 = λ s. IsOfVersion (subject x) s × (s.field ≡ id) in
    let both = any_found P Q version_of_spell xs m o p q t listing is (λ (s : Spell). (
      λ (h : Q s). (same_parts s.group s.version s.resource p q t (sym h.0.group ∙ sym at_g) (sym h.0.version ∙ sym at_v) (sym h.0.resource ∙ sym at_r), h.1),
      λ h. let parts = parts_same s.group s.version s.resource p q t h.0 in (record { group = sym at_g ∙ sym parts.0; version = sym at_v ∙ sym parts.1; resource = sym at_r ∙ sym parts.2 }, h.1),
    )) in
    subst (λ (l : List Spell). IsTrue b ↔ Any Q l) same (λ t. both.0 (test.0 t), λ any. test.1 (both.1 any))

pub introduced_for : (xs ys : List ApiEntry) (m : Listed ApiEntry) (o : Option (Bor (Vec (Bor ApiEntry)))) (b : Bool) (p q t : List ℕ) (s : Spell) (since : ℕ) → IsListing version_of_api xs m → xs ≡ ys → lent_in o ≡ listed_at m p q t → p ≡ s.group → q ≡ s.version → t ≡ s.resource → (IsTrue b ↔ HasLent (λ x. IsIntroduction x.change × (s.since ≡ max since x.since)) o) → IsTrue b ↔ Any (λ x. IsOfVersion (subject x) s × IsIntroduction x.change × (s.since ≡ max since x.since)) ys
introduced_for xs ys m o b p q t s since listing same is at_g at_v at_r test =
    let P : ApiEntry → Type 0 = λ x. IsIntroduction x.change × (s.since ≡ max since x.since) in
    let Q : ApiEntry → Type 0 = λ x. IsOfVersion (subject x) s × IsIntroduction x.change × (s.since ≡ max since x.since) in
    let both = any_found P Q version_of_api xs m o p q t listing is (λ (x : ApiEntry). (
      λ (h : Q x). (same_parts x.group x.version x.resource p q t (h.0.group ∙ sym at_g) (h.0.version ∙ sym at_v) (h.0.resource ∙ sym at_r), (h.1, h.2)),
      λ h. let parts = parts_same x.group x.version x.resource p q t h.0 in (record { group = parts.0 ∙ at_g; version = parts.1 ∙ at_v; resource = parts.2 ∙ at_r }, h.1.0, h.1.1),
    )) in
    subst (λ (l : List ApiEntry). IsTrue b ↔ Any Q l) same (λ t. both.0 (test.0 t), λ any. test.1 (both.1 any))

pub spelled_throughout : (xs : List ApiEntry) (h : Dated) (m : Listed ApiEntry) (o : Option (Bor (Vec (Bor ApiEntry)))) (b : Bool) (p q : List ℕ) (f : Field) → IsListing resource_of_api xs m → xs ≡ h.apis → lent_in o ≡ listed_at m p q [] → p ≡ f.group → q ≡ f.resource → (IsTrue b ↔ EachLent (IsSpelledIn h f) o) → IsTrue b ↔ All (λ x. IsPair h.apis f x → Any (IsSpelling f (subject x)) h.spells) h.apis
spelled_throughout xs h m o b p q f listing same is at_g at_r test =
    let Q : ApiEntry → Type 0 = λ x. IsPair h.apis f x → Any (IsSpelling f (subject x)) h.spells in
    let both = all_found (IsSpelledIn h f) Q resource_of_api xs m o p q [] listing is (λ (x : ApiEntry). (
      λ (k : Q x) t i kept.
          let parts = parts_same x.group x.resource [] p q [] t in
          let pair : IsPair h.apis f x = record { version = record { of_group = parts.0 ∙ at_g; of_resource = parts.1 ∙ at_r; introduces = i }; kept = kept } in
          Any-weaker (IsSpelling f (subject x)) (λ s. IsOfVersion (subject x) s × (s.field ≡ f.id)) h.spells (λ s (w : IsSpelling f (subject x) s). (w.1, sym w.0.id)) (k pair),
      λ k (pair : IsPair h.apis f x).
          let v = pair.version in
          Any-weaker (λ s. IsOfVersion (subject x) s × (s.field ≡ f.id)) (IsSpelling f (subject x)) h.spells (λ s w. (record { group = sym v.of_group ∙ w.0.group; resource = sym v.of_resource ∙ w.0.resource; id = sym w.1 }, w.0))
          (k (same_parts x.group x.resource [] p q [] (v.of_group ∙ sym at_g) (v.of_resource ∙ sym at_r) refl) v.introduces pair.kept),
    )) in
    let every = subst (λ (l : List ApiEntry). EachLent (IsSpelledIn h f) o ↔ All Q l) same both in
    (λ t. every.0 (test.0 t), λ all. test.1 (every.1 all))

named_same : (x : ApiEntry) (s : Spell) → IsOfVersion (subject x) s → subject x ≡ name_of s.group s.version s.resource
named_same x s v = λ i. name_of (v.group i) (v.version i) (v.resource i)

-- a spelling pairs with a field exactly where it spells a pair of it
pairs_of : (h : Dated) (f : Field) (s : Spell) → IsOfField f s → PairsWith h f s → Any (SpellsPair h.apis f s) h.apis
pairs_of h f s of_field with = Any-weaker (λ x. IsOfVersion (subject x) s × IsIntroduction x.change × (s.since ≡ max f.since x.since)) (SpellsPair h.apis f s) h.apis (λ x w. record {
  pair = record {
    version = record { of_group = w.0.group ∙ sym of_field.group; of_resource = w.0.resource ∙ sym of_field.resource; introduces = w.1 };
    kept = λ (k : IsForgotten h.apis (subject x) f.since). with.kept (subst (λ (n : GroupVersionResource). IsForgotten h.apis n f.since) (named_same x s w.0) k);
  };
  spelling = w.0;
  dated = w.2;
}) with.introduced

pairs_with : (h : Dated) (f : Field) (s : Spell) → Any (SpellsPair h.apis f s) h.apis → PairsWith h f s
pairs_with h f s any =
    let w : SpellsPair h.apis f s any.1 = any.4 in
    record {
      kept = λ (k : IsForgotten h.apis (name_of s.group s.version s.resource) f.since). w.pair.kept (subst (λ (n : GroupVersionResource). IsForgotten h.apis n f.since) (sym (named_same any.1 s w.spelling)) k);
      introduced = Any-weaker (SpellsPair h.apis f s) (λ x. IsOfVersion (subject x) s × IsIntroduction x.change × (s.since ≡ max f.since x.since)) h.apis (λ x (k : SpellsPair h.apis f s x). (k.spelling, k.pair.version.introduces, k.dated)) any;
    }

pub paired_with : (xs : List Field) (h : Dated) (m : Listed Field) (o : Option (Bor (Vec (Bor Field)))) (b : Bool) (p q : List ℕ) (s : Spell) → IsListing resource_of_field xs m → xs ≡ h.fields → lent_in o ≡ listed_at m p q [] → p ≡ s.group → q ≡ s.resource → (IsTrue b ↔ HasLent (λ f. (f.id ≡ s.field) × PairsWith h f s) o) → IsTrue b ↔ Any (λ f. IsOfField f s × Any (SpellsPair h.apis f s) h.apis) h.fields
paired_with xs h m o b p q s listing same is at_g at_r test =
    let P : Field → Type 0 = λ f. (f.id ≡ s.field) × PairsWith h f s in
    let Q : Field → Type 0 = λ f. IsOfField f s × Any (SpellsPair h.apis f s) h.apis in
    let both = any_found P Q resource_of_field xs m o p q [] listing is (λ (f : Field). (
      λ (k : Q f). (same_parts f.group f.resource [] p q [] (k.0.group ∙ sym at_g) (k.0.resource ∙ sym at_r) refl, (k.0.id, pairs_with h f s k.1)),
      λ k.
          let parts = parts_same f.group f.resource [] p q [] k.0 in
          let of_field : IsOfField f s = record { group = parts.0 ∙ at_g; resource = parts.1 ∙ at_r; id = k.1.0 } in
          (of_field, pairs_of h f s of_field k.1.1),
    )) in
    let some = subst (λ (l : List Field). HasLent P o ↔ Any Q l) same both in
    (λ t. some.0 (test.0 t), λ any. test.1 (some.1 any))

pub fits : (xs ys : List Field) (m : Listed Field) (o : Option (Bor (Vec (Bor Field)))) (b : Bool) (p q : List ℕ) (s : Spell) → IsListing resource_of_field xs m → xs ≡ ys → lent_in o ≡ listed_at m p q [] → p ≡ s.group → q ≡ s.resource → (IsTrue b ↔ EachLent (λ x. x.id ≡ s.field → FitsType x.ty s.form s.default) o) → IsTrue b ↔ All (λ f. IsOfField f s → FitsType f.ty s.form s.default) ys
fits xs ys m o b p q s listing same is at_g at_r test =
    let P : Field → Type 0 = λ x. x.id ≡ s.field → FitsType x.ty s.form s.default in
    let Q : Field → Type 0 = λ f. IsOfField f s → FitsType f.ty s.form s.default in
    let both = all_found P Q resource_of_field xs m o p q [] listing is (λ (f : Field). (
      λ (k : Q f) t id. let parts = parts_same f.group f.resource [] p q [] t in k (record { group = parts.0 ∙ at_g; resource = parts.1 ∙ at_r; id = id }),
      λ k (i : IsOfField f s). k (same_parts f.group f.resource [] p q [] (i.group ∙ sym at_g) (i.resource ∙ sym at_r) refl) i.id,
    )) in
    subst (λ (l : List Field). IsTrue b ↔ All Q l) same (λ t. both.0 (test.0 t), λ every. test.1 (both.1 every))
