-- The kinds of resources and the resources of kinds, as maps by name have them.
use Rattle.std.specs.Prelude.{ℕ, ◌≡◌, ◌≢◌, ◌↔◌, List, [], Some, All, IfSome, cond}
use Rattle.std.specs.Option.{option_copied}
use Rattle.std.specs.BTreeMap.{BTreeMap}
use Rattle.std.specs.Borrow.{Bor}
use Rattle.lifecycle.specs.declared.entry.ApiChange.{ApiChange}
use Rattle.lifecycle.specs.declared.entry.ApiChange.TheVariants.{Introduced}
use Rattle.lifecycle.specs.declared.entry.ApiEntry.{ApiEntry}
use Rattle.schemas.specs.ApiRules.{AgreeInKind}
use Rattle.basis.specs.NameMap.{value_at, is_same_name}

-- a change agrees with the map's for a resource exactly where it agrees with each of the entries of
-- the resource
abbrev pub HasChanges :
    List ApiEntry → BTreeMap (Bor (List ℕ) × Bor (List ℕ) × Bor (List ℕ)) (Bor ApiChange) → Type 0
HasChanges entries changes =
    (group resource : List ℕ) (change : ApiChange)
    → IfSome (option_copied (value_at changes group resource []))
    (λ known. AgreeInKind change known)
    ↔ All (λ y. y.group ≡ group → y.resource ≡ resource → AgreeInKind change y.change) entries

-- no introduction with this kind
abbrev pub HasOtherKind : List ℕ → ApiChange → Type 0
HasOtherKind kind (Introduced kind' singular namespaced enabled) = kind ≢ kind'
HasOtherKind kind _ = Unit {0}

-- a resource is the map's for a kind exactly where no entry of another resource of the group has
-- the kind
abbrev pub HasResources :
    List ApiEntry → BTreeMap (Bor (List ℕ) × Bor (List ℕ) × Bor (List ℕ)) (Bor (List ℕ)) → Type 0
HasResources entries resources =
    (group kind resource : List ℕ)
    → IfSome (option_copied (value_at resources group kind [])) (λ known. known ≡ resource)
    ↔ All (λ y. y.group ≡ group → y.resource ≢ resource → HasOtherKind kind y.change) entries

-- the map gets the entry's change at its resource
abbrev pub PutsChange :
    ApiEntry → BTreeMap (Bor (List ℕ) × Bor (List ℕ) × Bor (List ℕ)) (Bor ApiChange)
    → BTreeMap (Bor (List ℕ) × Bor (List ℕ) × Bor (List ℕ)) (Bor ApiChange) → Type 0
PutsChange x old new =
    (group resource : List ℕ)
    → option_copied (value_at new group resource [])
    ≡ cond (is_same_name x.group x.resource [] group resource [])
    (Some x.change) (option_copied (value_at old group resource []))

-- the map gets the entry's resource at its kind
abbrev pub PutsResource :
    ApiEntry → List ℕ → BTreeMap (Bor (List ℕ) × Bor (List ℕ) × Bor (List ℕ)) (Bor (List ℕ))
    → BTreeMap (Bor (List ℕ) × Bor (List ℕ) × Bor (List ℕ)) (Bor (List ℕ)) → Type 0
PutsResource x own old new =
    (group kind : List ℕ)
    → option_copied (value_at new group kind [])
    ≡ cond (is_same_name x.group own [] group kind [])
    (Some x.resource) (option_copied (value_at old group kind []))
