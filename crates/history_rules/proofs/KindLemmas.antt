-- How the maps of kinds and resources grow by an entry, and what they say of another one.
use Rattle.std.proofs.Common.{ℕ, ◌≡◌, ◌≢◌, ◌<◌, ◌↔◌, List, [], ◌∷◌, ◌++◌, Bool, true, false, Option, Some, cond, length, refl, sym, subst, ◌∙◌, get_or}
use Rattle.std.specs.Prelude.{◌&&◌, All, IfSome, IsTrue}
use Rattle.std.specs.Option.{option_copied}
use Rattle.std.specs.BTreeMap.{BTreeMap}
use Rattle.std.specs.Borrow.{Bor}
use Rattle.std.specs.Str.{bytes_eq}
use Rattle.std.proofs.lemmas.Bool.{and_parts, false≢true, true_from_ne_false}
use Rattle.std.proofs.lemmas.Slice.Eq.{bytes_eq-Decides}
use Rattle.std.proofs.lemmas.List.Elements.{All-push}
use Rattle.lifecycle.specs.declared.entry.ApiChange.{ApiChange}
use Rattle.lifecycle.specs.declared.entry.ApiChange.TheVariants.{Introduced, Deprecated, Removed, Forgotten}
use Rattle.lifecycle.specs.declared.entry.ApiEntry.{ApiEntry}
use Rattle.schemas.specs.ApiRules.{AgreeInKind, DifferInKind, KeepKindsApart}
use Rattle.basis.specs.NameMap.{value_at, is_same_name}
use Rattle.history_rules.specs.Kinds.{HasChanges, HasOtherKind, HasResources, PutsChange, PutsResource}
use Rattle.basis.proofs.NameLemmas.{same_bytes, same_parts}
use Rattle.history_rules.proofs.FollowerLemmas.{all_unpushed}

-- the change is no introduction
abbrev pub IsOther : ApiChange → Type 0
IsOther change = (kind singular : List ℕ) (namespaced enabled : Bool) → change ≡ Introduced kind singular namespaced enabled → ⊥

abbrev Changes : Type 0
Changes = BTreeMap (Bor (List ℕ) × Bor (List ℕ) × Bor (List ℕ)) (Bor ApiChange)

abbrev Resources : Type 0
Resources = BTreeMap (Bor (List ℕ) × Bor (List ℕ) × Bor (List ℕ)) (Bor (List ℕ))

agree_through : (a : ApiChange) (kind singular : List ℕ) (namespaced enabled : Bool) (b : ApiChange) → AgreeInKind a (Introduced kind singular namespaced enabled) → AgreeInKind (Introduced kind singular namespaced enabled) b → AgreeInKind a b
agree_through (Introduced k s n e) kind singular namespaced enabled (Introduced k' s' n' e') h g = (h.0 ∙ g.0, h.1 ∙ g.1, h.2 ∙ g.2)
agree_through (Introduced k s n e) kind singular namespaced enabled (Deprecated removal replacement) h g = tt
agree_through (Introduced k s n e) kind singular namespaced enabled Removed h g = tt
agree_through (Introduced k s n e) kind singular namespaced enabled Forgotten h g = tt
agree_through (Deprecated removal replacement) kind singular namespaced enabled b h g = tt
agree_through Removed kind singular namespaced enabled b h g = tt
agree_through Forgotten kind singular namespaced enabled b h g = tt

differ_other : (kind singular : List ℕ) (namespaced enabled : Bool) (b : ApiChange) → DifferInKind (Introduced kind singular namespaced enabled) b → HasOtherKind kind b
differ_other kind singular namespaced enabled (Introduced k s n e) h = h
differ_other kind singular namespaced enabled (Deprecated removal replacement) h = tt
differ_other kind singular namespaced enabled Removed h = tt
differ_other kind singular namespaced enabled Forgotten h = tt

other_differs : (kind singular : List ℕ) (namespaced enabled : Bool) (b : ApiChange) → HasOtherKind kind b → DifferInKind (Introduced kind singular namespaced enabled) b
other_differs kind singular namespaced enabled (Introduced k s n e) h = h
other_differs kind singular namespaced enabled (Deprecated removal replacement) h = tt
other_differs kind singular namespaced enabled Removed h = tt
other_differs kind singular namespaced enabled Forgotten h = tt

agree_with_other : (a b : ApiChange) → IsOther b → AgreeInKind a b
agree_with_other (Introduced k s n e) (Introduced k' s' n' e') other = absurd (other k' s' n' e' refl)
agree_with_other (Introduced k s n e) (Deprecated removal replacement) other = tt
agree_with_other (Introduced k s n e) Removed other = tt
agree_with_other (Introduced k s n e) Forgotten other = tt
agree_with_other (Deprecated removal replacement) b other = tt
agree_with_other Removed b other = tt
agree_with_other Forgotten b other = tt

other_kind : (kind : List ℕ) (b : ApiChange) → IsOther b → HasOtherKind kind b
other_kind kind (Introduced k s n e) other = absurd (other k s n e refl)
other_kind kind (Deprecated removal replacement) other = tt
other_kind kind Removed other = tt
other_kind kind Forgotten other = tt

same_if_not_other : (a b : List ℕ) → ((a ≡ b → ⊥) → ⊥) → a ≡ b
same_if_not_other a b h = (bytes_eq-Decides a b).0 (true_from_ne_false (bytes_eq a b) (λ (f : bytes_eq a b ≡ false). h (λ (e : a ≡ b). false≢true (sym f ∙ same_bytes a b e))))

abbrev OfResource : List ℕ → List ℕ → ApiChange → ApiEntry → Type 0
OfResource group resource change y = y.group ≡ group → y.resource ≡ resource → AgreeInKind change y.change

abbrev OfKind : List ℕ → List ℕ → List ℕ → ApiEntry → Type 0
OfKind group kind resource y = y.group ≡ group → y.resource ≢ resource → HasOtherKind kind y.change

-- an introduction keeps its kind apart where it agrees with its resource and no other resource has its kind
apart_by_maps : (x : ApiEntry) (kind singular : List ℕ) (namespaced enabled : Bool) (y : ApiEntry) → x.change ≡ Introduced kind singular namespaced enabled → OfResource x.group x.resource x.change y → OfKind x.group kind x.resource y → KeepKindsApart x y
apart_by_maps x kind singular namespaced enabled y is of_resource of_kind = record {
  agree = λ (g : x.group ≡ y.group) (r : x.resource ≡ y.resource). of_resource (sym g) (sym r);
  differ = λ (g : x.group ≡ y.group) (r : x.resource ≢ y.resource). subst (λ (a : ApiChange). DifferInKind a y.change) (sym is) (other_differs kind singular namespaced enabled y.change (of_kind (sym g) (λ (e : y.resource ≡ x.resource). r (sym e))));
}

kind_from_apart : (x : ApiEntry) (kind singular : List ℕ) (namespaced enabled : Bool) (y : ApiEntry) → x.change ≡ Introduced kind singular namespaced enabled → KeepKindsApart x y → OfKind x.group kind x.resource y
kind_from_apart x kind singular namespaced enabled y is apart = λ (g : y.group ≡ x.group) (r : y.resource ≢ x.resource).
    differ_other kind singular namespaced enabled y.change (subst (λ (a : ApiChange). DifferInKind a y.change) is (apart.differ (sym g) (λ (e : x.resource ≡ y.resource). r (sym e))))

pub introduction_apart : (x : ApiEntry) (kind singular : List ℕ) (namespaced enabled : Bool) (changes : Changes) (resources : Resources) (a b : Bool) → x.change ≡ Introduced kind singular namespaced enabled → (IsTrue a ↔ IfSome (option_copied (value_at changes x.group x.resource [])) (λ y. AgreeInKind x.change y)) → (IsTrue b ↔ IfSome (option_copied (value_at resources x.group kind [])) (λ r. r ≡ x.resource)) → (xs : List ApiEntry) → HasChanges xs changes → HasResources xs resources → (IsTrue a × IsTrue b) ↔ All (KeepKindsApart x) xs
introduction_apart x kind singular namespaced enabled changes resources a b is agrees alone xs of_changes of_resources = (
  λ (both : IsTrue a × IsTrue b) (k : ℕ) (d : ApiEntry) (within : k < length xs).
      apart_by_maps x kind singular namespaced enabled (get_or xs k d) is ((of_changes x.group x.resource x.change).0 (agrees.0 both.0) k d within) ((of_resources x.group kind x.resource).0 (alone.0 both.1) k d within),
  λ (every : All (KeepKindsApart x) xs). (
    agrees.1 ((of_changes x.group x.resource x.change).1 (λ (k : ℕ) (d : ApiEntry) (within : k < length xs) (g : (get_or xs k d).group ≡ x.group) (r : (get_or xs k d).resource ≡ x.resource). (every k d within).agree (sym g) (sym r))),
    alone.1 ((of_resources x.group kind x.resource).1 (λ (k : ℕ) (d : ApiEntry) (within : k < length xs). kind_from_apart x kind singular namespaced enabled (get_or xs k d) is (every k d within))),
  ),
)

abbrev Agrees : List ApiEntry → Option ApiChange → List ℕ → List ℕ → ApiChange → Type 0
Agrees entries known group resource change = IfSome known (λ k. AgreeInKind change k) ↔ All (OfResource group resource change) entries

abbrev Names : List ApiEntry → Option (List ℕ) → List ℕ → List ℕ → List ℕ → Type 0
Names entries known group kind resource = IfSome known (λ k. k ≡ resource) ↔ All (OfKind group kind resource) entries

change_own : (xs : List ApiEntry) (x : ApiEntry) (kind singular : List ℕ) (namespaced enabled : Bool) (change : ApiChange) → x.change ≡ Introduced kind singular namespaced enabled → All (KeepKindsApart x) xs → Agrees (xs ++ x ∷ []) (Some x.change) x.group x.resource change
change_own xs x kind singular namespaced enabled change is every = (
  λ (agree : AgreeInKind change x.change). All-push (OfResource x.group x.resource change) xs x
      (λ (k : ℕ) (d : ApiEntry) (within : k < length xs) (g : (get_or xs k d).group ≡ x.group) (r : (get_or xs k d).resource ≡ x.resource).
      agree_through change kind singular namespaced enabled (get_or xs k d).change (subst (λ (a : ApiChange). AgreeInKind change a) is agree) (subst (λ (a : ApiChange). AgreeInKind a (get_or xs k d).change) is ((every k d within).agree (sym g) (sym r))))
      (λ g r. agree),
  λ (all : All (OfResource x.group x.resource change) (xs ++ x ∷ [])). (all_unpushed (OfResource x.group x.resource change) xs x all).1 refl refl,
)

change_kept : (xs : List ApiEntry) (x : ApiEntry) (known : Option ApiChange) (group resource : List ℕ) (change : ApiChange) → OfResource group resource change x → Agrees xs known group resource change → Agrees (xs ++ x ∷ []) known group resource change
change_kept xs x known group resource change here before = (
  λ h. All-push (OfResource group resource change) xs x (before.0 h) here,
  λ (all : All (OfResource group resource change) (xs ++ x ∷ [])). before.1 (all_unpushed (OfResource group resource change) xs x all).0,
)

change_by : (xs : List ApiEntry) (x : ApiEntry) (kind singular : List ℕ) (namespaced enabled : Bool) (known : Option ApiChange) (group resource : List ℕ) (change : ApiChange) (b : Bool) → is_same_name x.group x.resource [] group resource [] ≡ b → x.change ≡ Introduced kind singular namespaced enabled → All (KeepKindsApart x) xs → Agrees xs known group resource change → Agrees (xs ++ x ∷ []) (cond b (Some x.change) known) group resource change
change_by xs x kind singular namespaced enabled known group resource change true same is every before =
    let (front, third) = and_parts (bytes_eq x.group group && bytes_eq x.resource resource) true same in
    let (first, second) = and_parts (bytes_eq x.group group) (bytes_eq x.resource resource) front in
    subst (λ (g : List ℕ). Agrees (xs ++ x ∷ []) (Some x.change) g resource change) ((bytes_eq-Decides x.group group).0 first)
    (subst (λ (r : List ℕ). Agrees (xs ++ x ∷ []) (Some x.change) x.group r change) ((bytes_eq-Decides x.resource resource).0 second)
    (change_own xs x kind singular namespaced enabled change is every))
change_by xs x kind singular namespaced enabled known group resource change false same is every before =
    change_kept xs x known group resource change (λ (g : x.group ≡ group) (r : x.resource ≡ resource). absurd (false≢true (sym same ∙ same_parts x.group x.resource [] group resource [] g r refl))) before

resource_own : (xs : List ApiEntry) (x : ApiEntry) (kind singular : List ℕ) (namespaced enabled : Bool) (resource : List ℕ) → x.change ≡ Introduced kind singular namespaced enabled → All (KeepKindsApart x) xs → Names (xs ++ x ∷ []) (Some x.resource) x.group kind resource
resource_own xs x kind singular namespaced enabled resource is every = (
  λ (same : x.resource ≡ resource). All-push (OfKind x.group kind resource) xs x
      (λ (k : ℕ) (d : ApiEntry) (within : k < length xs) (g : (get_or xs k d).group ≡ x.group) (r : (get_or xs k d).resource ≢ resource).
      kind_from_apart x kind singular namespaced enabled (get_or xs k d) is (every k d within) g (λ (e : (get_or xs k d).resource ≡ x.resource). r (e ∙ same)))
      (λ (g : x.group ≡ x.group) (r : x.resource ≢ resource). absurd (r same)),
  λ (all : All (OfKind x.group kind resource) (xs ++ x ∷ [])). same_if_not_other x.resource resource (λ (r : x.resource ≡ resource → ⊥).
      let here : HasOtherKind kind (Introduced kind singular namespaced enabled) = subst (λ (a : ApiChange). HasOtherKind kind a) is ((all_unpushed (OfKind x.group kind resource) xs x all).1 refl r) in
      here refl),
)

resource_kept : (xs : List ApiEntry) (x : ApiEntry) (known : Option (List ℕ)) (group kind resource : List ℕ) → OfKind group kind resource x → Names xs known group kind resource → Names (xs ++ x ∷ []) known group kind resource
resource_kept xs x known group kind resource here before = (
  λ h. All-push (OfKind group kind resource) xs x (before.0 h) here,
  λ (all : All (OfKind group kind resource) (xs ++ x ∷ [])). before.1 (all_unpushed (OfKind group kind resource) xs x all).0,
)

resource_by : (xs : List ApiEntry) (x : ApiEntry) (own singular : List ℕ) (namespaced enabled : Bool) (known : Option (List ℕ)) (group kind resource : List ℕ) (b : Bool) → is_same_name x.group own [] group kind [] ≡ b → x.change ≡ Introduced own singular namespaced enabled → All (KeepKindsApart x) xs → Names xs known group kind resource → Names (xs ++ x ∷ []) (cond b (Some x.resource) known) group kind resource
resource_by xs x own singular namespaced enabled known group kind resource true same is every before =
    let (front, third) = and_parts (bytes_eq x.group group && bytes_eq own kind) true same in
    let (first, second) = and_parts (bytes_eq x.group group) (bytes_eq own kind) front in
    subst (λ (g : List ℕ). Names (xs ++ x ∷ []) (Some x.resource) g kind resource) ((bytes_eq-Decides x.group group).0 first)
    (subst (λ (k : List ℕ). Names (xs ++ x ∷ []) (Some x.resource) x.group k resource) ((bytes_eq-Decides own kind).0 second)
    (resource_own xs x own singular namespaced enabled resource is every))
resource_by xs x own singular namespaced enabled known group kind resource false same is every before =
    resource_kept xs x known group kind resource (λ (g : x.group ≡ group) (r : x.resource ≢ resource).
    let here : HasOtherKind kind (Introduced own singular namespaced enabled) = λ (e : kind ≡ own). absurd (false≢true (sym same ∙ same_parts x.group own [] group kind [] g (sym e) refl)) in
    subst (λ (a : ApiChange). HasOtherKind kind a) (sym is) here) before

pub changes_more : (x : ApiEntry) (kind singular : List ℕ) (namespaced enabled : Bool) (old new : Changes) → x.change ≡ Introduced kind singular namespaced enabled → PutsChange x old new → (xs : List ApiEntry) → HasChanges xs old → All (KeepKindsApart x) xs → HasChanges (xs ++ x ∷ []) new
changes_more x kind singular namespaced enabled old new is put xs before every = λ (group resource : List ℕ) (change : ApiChange).
    subst (λ (o : Option ApiChange). Agrees (xs ++ x ∷ []) o group resource change) (sym (put group resource))
    (change_by xs x kind singular namespaced enabled (option_copied (value_at old group resource [])) group resource change (is_same_name x.group x.resource [] group resource []) refl is every (before group resource change))

pub resources_more : (x : ApiEntry) (own singular : List ℕ) (namespaced enabled : Bool) (old new : Resources) → x.change ≡ Introduced own singular namespaced enabled → PutsResource x own old new → (xs : List ApiEntry) → HasResources xs old → All (KeepKindsApart x) xs → HasResources (xs ++ x ∷ []) new
resources_more x own singular namespaced enabled old new is put xs before every = λ (group kind resource : List ℕ).
    subst (λ (o : Option (List ℕ)). Names (xs ++ x ∷ []) o group kind resource) (sym (put group kind))
    (resource_by xs x own singular namespaced enabled (option_copied (value_at old group kind [])) group kind resource (is_same_name x.group own [] group kind []) refl is every (before group kind resource))

-- an entry that introduces nothing changes neither map
pub changes_passed : (x : ApiEntry) (changes : Changes) → IsOther x.change → (xs : List ApiEntry) → HasChanges xs changes → HasChanges (xs ++ x ∷ []) changes
changes_passed x changes other xs before = λ (group resource : List ℕ) (change : ApiChange).
    change_kept xs x (option_copied (value_at changes group resource [])) group resource change (λ g r. agree_with_other change x.change other) (before group resource change)

pub resources_passed : (x : ApiEntry) (resources : Resources) → IsOther x.change → (xs : List ApiEntry) → HasResources xs resources → HasResources (xs ++ x ∷ []) resources
resources_passed x resources other xs before = λ (group kind resource : List ℕ).
    resource_kept xs x (option_copied (value_at resources group kind [])) group kind resource (λ g r. other_kind kind x.change other) (before group kind resource)
