-- By when the versions deprecated in favour of another are forgotten.
use Rattle.std.specs.Prelude.{ℕ, ◌≡◌, ◌≤◌, ◌↔◌, List, Option, Some, All, IfSome, IsSomeAnd, cond}
use Rattle.std.specs.BTreeMap.{BTreeMap}
use Rattle.std.specs.Borrow.{Bor}
use Rattle.lifecycle.specs.declared.entry.ApiEntry.{ApiEntry}
use Rattle.schemas.specs.ApiRules.{IsForgottenBefore}
use Rattle.basis.specs.NameMap.{value_at, is_same_name}

-- the map has for each version when those are all forgotten that the entries deprecate in its
-- favour
abbrev pub HasFollowers :
    List ApiEntry → List ApiEntry → BTreeMap (Bor (List ℕ) × Bor (List ℕ) × Bor (List ℕ)) (Option ℕ)
    → Type 0
HasFollowers all entries followers =
    (x : ApiEntry)
    → IfSome (value_at followers x.group x.version x.resource)
    (λ date. IsSomeAnd date (λ d. d ≤ x.since))
    ↔ All (IsForgottenBefore all x) entries

-- the map gets the date at the replacement of the entry's version, where it has no later one there
-- and none is missing
abbrev pub PutsLater :
    ApiEntry → List ℕ → Option ℕ → BTreeMap (Bor (List ℕ) × Bor (List ℕ) × Bor (List ℕ)) (Option ℕ)
    → BTreeMap (Bor (List ℕ) × Bor (List ℕ) × Bor (List ℕ)) (Option ℕ) → Type 0
PutsLater x replacement date old new =
    (latest : Option ℕ)
    × ((e : ℕ) → IsSomeAnd latest (λ d. d ≤ e)
    ↔ (IfSome (value_at old x.group replacement x.resource) (λ known. IsSomeAnd known (λ d. d ≤ e))
    × IsSomeAnd date (λ d. d ≤ e)))
    × ((group version resource : List ℕ) → value_at new group version resource
    ≡ cond (is_same_name x.group replacement x.resource group version resource)
    (Some latest) (value_at old group version resource))
