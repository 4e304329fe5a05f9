-- The earliest dates of the changes of versions.
use Rattle.std.specs.Prelude.{ℕ, ◌≡◌, ◌≤◌, ◌↔◌, ◌⊎◌, List, Some, Any, IsSomeAnd, cond}
use Rattle.std.specs.BTreeMap.{BTreeMap}
use Rattle.std.specs.Borrow.{Bor}
use Rattle.lifecycle.specs.Entry.{IsIntroduction, IsRemoval, IsKnownOf}
use Rattle.lifecycle.specs.declared.entry.ApiChange.{ApiChange}
use Rattle.lifecycle.specs.declared.entry.ApiEntry.{ApiEntry}
use Rattle.schemas.specs.ApiRules.{IsForgetting, name_of}
use Rattle.basis.specs.NameMap.{value_at, is_same_name}
use Rattle.history_rules.specs.declared.dates.Event.{Event}
use Rattle.history_rules.specs.declared.dates.Event.TheVariants.{Introduction, Removal, Forgetting}

-- the change is such an event
abbrev pub IsEvent : Event → ApiChange → Type 0
IsEvent Introduction change = IsIntroduction change
IsEvent Removal change = IsRemoval change
IsEvent Forgetting change = IsForgetting change

-- the map has each version's earliest date of such an event
abbrev pub HasEarliest :
    Event → List ApiEntry → BTreeMap (Bor (List ℕ) × Bor (List ℕ) × Bor (List ℕ)) ℕ → Type 0
HasEarliest event entries dates =
    (group version resource : List ℕ) (e : ℕ)
    → IsSomeAnd (value_at dates group version resource) (λ date. date ≤ e)
    ↔ Any (λ x. IsKnownOf (name_of group version resource) e x × IsEvent event x.change) entries

-- the map gets the entry's date where it has no earlier one for the entry's version
abbrev pub PutsEarlier :
    ApiEntry → BTreeMap (Bor (List ℕ) × Bor (List ℕ) × Bor (List ℕ)) ℕ
    → BTreeMap (Bor (List ℕ) × Bor (List ℕ) × Bor (List ℕ)) ℕ → Type 0
PutsEarlier x old new =
    (date : ℕ)
    × ((e : ℕ) → (date ≤ e)
    ↔ (IsSomeAnd (value_at old x.group x.version x.resource) (λ d. d ≤ e) ⊎ (x.since ≤ e)))
    × ((group version resource : List ℕ) → value_at new group version resource
    ≡ cond (is_same_name x.group x.version x.resource group version resource)
    (Some date) (value_at old group version resource))
