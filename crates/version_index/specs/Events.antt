-- The kinds of changes that are looked up, each by its test.
use Rattle.std.specs.Prelude.{◌≡◌, ℕ, List, Bool, Option, option_map}
use Rattle.std.specs.Borrow.{Bor}
use Rattle.std.specs.BTreeMap.{BTreeMap}
use Rattle.basis.specs.NameMap.{value_at}
use Rattle.lifecycle.specs.Entry.{GroupVersionResource}
use Rattle.lifecycle.specs.Tables.{is_introduction, is_deprecation, is_removal, is_forgetting, first_change}
use Rattle.lifecycle.specs.declared.entry.ApiChange.{ApiChange}
use Rattle.lifecycle.specs.declared.entry.ApiEntry.{ApiEntry}
use Rattle.version_index.specs.declared.event.Event.{Event}
use Rattle.version_index.specs.declared.event.Event.TheVariants.{Introduction, Deprecation, Removal, Forgetting}

abbrev pub is_event : Event → ApiChange → Bool
is_event Introduction = is_introduction
is_event Deprecation = is_deprecation
is_event Removal = is_removal
is_event Forgetting = is_forgetting

-- maps from names of versions to their changes
abbrev pub ChangeMap : Type 0
ChangeMap = BTreeMap (Bor (List ℕ) × Bor (List ℕ) × Bor (List ℕ)) (Bor ApiEntry)

-- what the map has of a version
abbrev pub change_in : ChangeMap → GroupVersionResource → Option ApiEntry
change_in m name = option_map (λ x. x.now) (value_at m name.group name.version name.resource)

-- the map has of each version the first such change in the tables
abbrev pub HasFirstChanges : Event → List ApiEntry → ChangeMap → Type 0
HasFirstChanges event tables m =
    (name : GroupVersionResource) → change_in m name ≡ first_change (is_event event) tables name
