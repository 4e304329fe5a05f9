-- A history without what no release from its floor on needs: specs of gates that later ones have
-- followed by then, and versions that are forgotten by then.
use Rattle.std.specs.Prelude.{ℕ, ◌≡◌, ◌≤◌, ◌<◌, ◌&&◌, not, nat_le, nat_lt, Bool, true, List, Any, filter, Some}
use Rattle.std.specs.List.{list_any}
use Rattle.std.specs.Str.{bytes_eq}
use Rattle.fields.specs.declared.field.Spell.{Spell}
use Rattle.gate_spec.specs.Gates.{is_spec}
use Rattle.gate_spec.specs.declared.entry.GateEntry.{GateEntry}
use Rattle.lifecycle.specs.Entry.{GroupVersionResource, subject}
use Rattle.lifecycle.specs.Tables.{is_change_by, is_forgetting}
use Rattle.lifecycle.specs.declared.entry.ApiEntry.{ApiEntry}
use Rattle.minor_version.specs.Ranges.{floor_of}
use Rattle.schemas.specs.ApiRules.{name_of}
use Rattle.schemas.specs.Dated.{Dated}
use Rattle.schemas.specs.Rules.{first_of, last_of}

-- ---- what is past

-- y is a later spec of the gate of x, dated at or before the floor
pub record IsLaterSpec (floor : ℕ) (x y : GateEntry) : Type 0 where
  pub spec : is_spec y.change ≡ true
  pub named : y.name ≡ x.name
  pub later : x.since < y.since
  pub dated : y.since ≤ floor

-- a spec that no release from the floor on finds: a later spec of its gate is dated at or before it.
-- A removal makes no spec past, since the removed gate stays at the default of its last one
abbrev pub IsPast : List GateEntry → ℕ → GateEntry → Type 0
IsPast gates floor x = (is_spec x.change ≡ true) × Any (IsLaterSpec floor x) gates

-- the same as tests
abbrev pub is_later_spec : ℕ → GateEntry → GateEntry → Bool
is_later_spec floor x y =
    is_spec y.change
    && (bytes_eq y.name x.name && (nat_lt x.since y.since && nat_le y.since floor))

abbrev pub is_past : List GateEntry → ℕ → GateEntry → Bool
is_past gates floor x = is_spec x.change && list_any (is_later_spec floor x) gates

-- a forgetting of the version is dated at or before the floor
abbrev pub is_forgotten : List ApiEntry → ℕ → GroupVersionResource → Bool
is_forgotten apis floor name = list_any (is_change_by is_forgetting name floor) apis

-- the version in which a field is spelled
abbrev pub version_of : Spell → GroupVersionResource
version_of s = name_of s.group s.version s.resource

-- ---- what stays, in order

abbrev pub gates_from : List GateEntry → ℕ → List GateEntry
gates_from gates floor = filter (λ x. not (is_past gates floor x)) gates

abbrev pub apis_from : List ApiEntry → ℕ → List ApiEntry
apis_from apis floor = filter (λ x. not (is_forgotten apis floor (subject x))) apis

abbrev pub spells_from : List ApiEntry → List Spell → ℕ → List Spell
spells_from apis spells floor = filter (λ s. not (is_forgotten apis floor (version_of s))) spells

-- the history from the floor on, which is its first release then
abbrev pub folded_at : Dated → ℕ → Dated
folded_at h floor = record {
  first = Some floor;
  last = h.last;
  gates = gates_from h.gates floor;
  apis = apis_from h.apis floor;
  fields = h.fields;
  spells = spells_from h.apis h.spells floor;
}

-- the lowest release that may be emulated
abbrev pub floor_in : Dated → ℕ
floor_in h = floor_of (first_of h) (last_of h)

abbrev pub folded : Dated → Dated
folded h = folded_at h (floor_in h)
