-- What the entries listed so far say of the next one.
use Rattle.std.proofs.Common.{ℕ, ◌≡◌, ◌<◌, ◌↔◌, List, [], ◌∷◌, Bool, true, false, Option, length, cond, refl, sym, ap, subst, ◌∙◌, get_or}
use Rattle.std.specs.Prelude.{◌&&◌, filter, All, Any, IsTrue}
use Rattle.std.specs.Borrow.{Bor}
use Rattle.std.specs.Global.{Vec}
use Rattle.std.specs.Str.{bytes_eq}
use Rattle.std.proofs.lemmas.Bool.{false≢true}
use Rattle.std.proofs.lemmas.Option.{get_or_from_slice_get}
use Rattle.schemas.proofs.PreviousLemmas.{entry_at}
use Rattle.fields.specs.declared.field.Field.{Field}
use Rattle.fields.specs.declared.field.Spell.{Spell}
use Rattle.schemas.specs.FieldRules.{is_of_resource, AreOneField}
use Rattle.listing.specs.Keys.{resource_of_field, version_of_spell}
use Rattle.listing.specs.Listing.{Listed, lent_in, listed_at, IsListing, HasLent, EachLent}
use Rattle.schemas.specs.Pairs.{AreForOneVersion, AreOfOnePair}
use Rattle.fields.specs.Table.{AreApart}
use Rattle.basis.proofs.NameLemmas.{same_parts}
use Rattle.listing.proofs.NameLemmas.{parts_same}
use Rattle.listing.proofs.ListingLemmas.{of_name, any_found, all_found}
use Rattle.field_rules.proofs.PassLemmas.{none_of_all}
use mathlib.Core.Bool.{not}

all_of_none : {X : Type 0} (P : X → Type 0) (xs : List X) → ¬ Any P xs → All (λ x. ¬ P x) xs
all_of_none {X} P xs none = λ (k : ℕ) (d : X) (within : k < length xs) p.
    let at = entry_at xs k within in
    let read : get_or xs k d ≡ at.0 = get_or_from_slice_get xs k at.0 d at.1 in
    none (k, at.0, within, get_or_from_slice_get xs k at.0 at.0 at.1, subst P read p)

-- where a test finds none, each is another
pub denied : {X : Type 0} (P : X → Type 0) (xs : List X) (b : Bool) → (IsTrue b ↔ Any P xs) → IsTrue (not b) ↔ All (λ x. ¬ P x) xs
denied P xs true test = (λ t. absurd (false≢true t), λ all. absurd (none_of_all P xs all (test.0 refl)))
denied P xs false test = (λ t. all_of_none P xs (λ any. false≢true (test.1 any)), λ all. refl)

pub once : (f : Field) (fields : List Field) (m : Listed Field) (o : Option (Bor (Vec (Bor Field)))) (b : Bool) (p q : List ℕ) → IsListing resource_of_field fields m → lent_in o ≡ listed_at m p q [] → p ≡ f.group → q ≡ f.resource → (IsTrue b ↔ HasLent (λ x. x.id ≡ f.id) o) → IsTrue (not b) ↔ All (λ y. ¬ AreOneField f y) fields
once f fields m o b p q listing is at_g at_r test =
    let P : Field → Type 0 = λ x. x.id ≡ f.id in
    let both = any_found P (AreOneField f) resource_of_field fields m o p q [] listing is (λ (y : Field). (
      λ (h : AreOneField f y). (same_parts y.group y.resource [] p q [] (h.group ∙ sym at_g) (h.resource ∙ sym at_r) refl, h.id),
      λ h. let parts = parts_same y.group y.resource [] p q [] h.0 in record { group = parts.0 ∙ at_g; resource = parts.1 ∙ at_r; id = h.1 },
    )) in
    denied (AreOneField f) fields b (λ t. both.0 (test.0 t), λ any. test.1 (both.1 any))

and_true : (b : Bool) → (b && true) ≡ b
and_true true = refl
and_true false = refl

filter_like : {X : Type 0} (t u : X → Bool) (xs : List X) → ((x : X) → t x ≡ u x) → filter t xs ≡ filter u xs
filter_like t u [] like = refl
filter_like t u (x ∷ xs) like = ap (λ b. cond b (x ∷ filter t xs) (filter t xs)) (like x) ∙ ap (λ l. cond (u x) (x ∷ l) l) (filter_like t u xs like)

pub few : (f : Field) (fields : List Field) (m : Listed Field) (o : Option (Bor (Vec (Bor Field)))) (n : ℕ) (p q : List ℕ) → IsListing resource_of_field fields m → lent_in o ≡ listed_at m p q [] → p ≡ f.group → q ≡ f.resource → n ≡ length (lent_in o) → n ≡ length (filter (is_of_resource f) fields)
few f fields m o n p q listing is at_g at_r counted =
    counted ∙ ap length (is ∙ listing p q [] ∙ filter_like (of_name resource_of_field p q []) (is_of_resource f) fields (λ (y : Field).
    and_true (bytes_eq y.group p && bytes_eq y.resource q) ∙ ap (λ (g : List ℕ). bytes_eq y.group g && bytes_eq y.resource q) at_g ∙ ap (λ (r : List ℕ). bytes_eq y.group f.group && bytes_eq y.resource r) at_r))

pub single : (s : Spell) (spells : List Spell) (m : Listed Spell) (o : Option (Bor (Vec (Bor Spell)))) (b : Bool) (p q r : List ℕ) → IsListing version_of_spell spells m → lent_in o ≡ listed_at m p q r → p ≡ s.group → q ≡ s.version → r ≡ s.resource → (IsTrue b ↔ HasLent (λ x. x.field ≡ s.field) o) → IsTrue (not b) ↔ All (λ t. ¬ AreOfOnePair s t) spells
single s spells m o b p q r listing is at_g at_v at_r test =
    let P : Spell → Type 0 = λ x. x.field ≡ s.field in
    let both = any_found P (AreOfOnePair s) version_of_spell spells m o p q r listing is (λ (t : Spell). (
      λ (h : AreOfOnePair s t). (same_parts t.group t.version t.resource p q r (sym h.0.group ∙ sym at_g) (sym h.0.version ∙ sym at_v) (sym h.0.resource ∙ sym at_r), sym h.1),
      λ h. let parts = parts_same t.group t.version t.resource p q r h.0 in (record { group = sym at_g ∙ sym parts.0; version = sym at_v ∙ sym parts.1; resource = sym at_r ∙ sym parts.2 }, sym h.1),
    )) in
    denied (AreOfOnePair s) spells b (λ t. both.0 (test.0 t), λ any. test.1 (both.1 any))

pub apart : (s : Spell) (spells : List Spell) (m : Listed Spell) (o : Option (Bor (Vec (Bor Spell)))) (b : Bool) (p q r : List ℕ) → IsListing version_of_spell spells m → lent_in o ≡ listed_at m p q r → p ≡ s.group → q ≡ s.version → r ≡ s.resource → (IsTrue b ↔ EachLent (λ x. AreApart s.path x.path) o) → IsTrue b ↔ All (λ t. AreForOneVersion s t → AreApart s.path t.path) spells
apart s spells m o b p q r listing is at_g at_v at_r test =
    let P : Spell → Type 0 = λ x. AreApart s.path x.path in
    let Q : Spell → Type 0 = λ t. AreForOneVersion s t → AreApart s.path t.path in
    let both = all_found P Q version_of_spell spells m o p q r listing is (λ (t : Spell). (
      λ (h : Q t) same. let parts = parts_same t.group t.version t.resource p q r same in h (record { group = sym at_g ∙ sym parts.0; version = sym at_v ∙ sym parts.1; resource = sym at_r ∙ sym parts.2 }),
      λ h (v : AreForOneVersion s t). h (same_parts t.group t.version t.resource p q r (sym v.group ∙ sym at_g) (sym v.version ∙ sym at_v) (sym v.resource ∙ sym at_r)),
    )) in
    (λ t. both.0 (test.0 t), λ every. test.1 (both.1 every))
