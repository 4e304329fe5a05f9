-- What is past by the floor, as maps by names: for each gate the latest date of its specs by then, and
-- the versions that are forgotten by then.
use Rattle.std.specs.Prelude.{ℕ, ◌≡◌, nat_lt, Bool, false, List, []}
use Rattle.std.specs.Borrow.{Bor}
use Rattle.std.specs.BTreeMap.{BTreeMap}
use Rattle.std.specs.List.{list_any}
use Rattle.std.specs.Option.{is_some, option_map_or}
use Rattle.basis.specs.NameMap.{value_at}
use Rattle.gate_spec.specs.declared.entry.GateEntry.{GateEntry}
use Rattle.lifecycle.specs.Entry.{GroupVersionResource}
use Rattle.lifecycle.specs.declared.entry.ApiEntry.{ApiEntry}
use Rattle.history_fold.specs.Folded.{is_later_spec, is_forgotten}

-- a map by names of three parts
abbrev pub ByName : Type 0 → Type 0
ByName V = BTreeMap (Bor (List ℕ) × Bor (List ℕ) × Bor (List ℕ)) V

-- the date of the entry's gate is later than the entry
abbrev pub has_later : ByName ℕ → GateEntry → Bool
has_later m x = option_map_or (λ date. nat_lt x.since date) (value_at m x.name [] []) false

-- by the map an entry has a later date exactly where a later spec of its gate is dated by the floor
abbrev pub HasLatestSpecs : ℕ → List GateEntry → ByName ℕ → Type 0
HasLatestSpecs floor gates m =
    (x : GateEntry) → has_later m x ≡ list_any (is_later_spec floor x) gates

-- the map has the version
abbrev pub has_version : ByName (Unit {0}) → GroupVersionResource → Bool
has_version m name = is_some (value_at m name.group name.version name.resource)

-- the map has exactly the versions that are forgotten by the floor
abbrev pub HasForgotten : ℕ → List ApiEntry → ByName (Unit {0}) → Type 0
HasForgotten floor apis m =
    (name : GroupVersionResource) → has_version m name ≡ is_forgotten apis floor name
