-- What the tables of a release say of a version of a resource. The tables are the dated changes up
-- to the release: no later change and no emulated release occurs in them.
use Rattle.std.specs.Prelude.{◌&&◌, not, ℕ, nat_le, Bool, true, false, List, filter, find, Option, Some, None, is_some, option_and_then, cond}
use Rattle.std.specs.Str.{bytes_eq}
use Rattle.lifecycle.specs.Entry.{GroupVersionResource}
use Rattle.lifecycle.specs.declared.entry.ApiEntry.{ApiEntry}
use Rattle.lifecycle.specs.declared.entry.ApiChange.{ApiChange}
use Rattle.lifecycle.specs.declared.entry.ApiChange.TheVariants.{Introduced, Deprecated, Removed, Forgotten}

-- the changes dated at or before the release, in order
abbrev pub cutoff : List ApiEntry → ℕ → List ApiEntry
cutoff entries e = filter (λ x. nat_le x.since e) entries

abbrev pub is_introduction : ApiChange → Bool
is_introduction (Introduced kind singular namespaced enabled) = true
is_introduction (Deprecated removal replacement) = false
is_introduction Removed = false
is_introduction Forgotten = false

abbrev pub is_deprecation : ApiChange → Bool
is_deprecation (Introduced kind singular namespaced enabled) = false
is_deprecation (Deprecated removal replacement) = true
is_deprecation Removed = false
is_deprecation Forgotten = false

abbrev pub is_removal : ApiChange → Bool
is_removal (Introduced kind singular namespaced enabled) = false
is_removal (Deprecated removal replacement) = false
is_removal Removed = true
is_removal Forgotten = false

abbrev pub is_forgetting : ApiChange → Bool
is_forgetting (Introduced kind singular namespaced enabled) = false
is_forgetting (Deprecated removal replacement) = false
is_forgetting Removed = false
is_forgetting Forgotten = true

-- the entry speaks of this version
abbrev pub is_of : GroupVersionResource → ApiEntry → Bool
is_of name x =
    bytes_eq x.group name.group && bytes_eq x.version name.version
    && bytes_eq x.resource name.resource

-- the entry is such a change of the version, dated at or before the release
abbrev pub is_change_by : (ApiChange → Bool) → GroupVersionResource → ℕ → ApiEntry → Bool
is_change_by test name e x = nat_le x.since e && (is_of name x && test x.change)

-- the first of the version's changes in the tables that passes the test
abbrev pub first_change : (ApiChange → Bool) → List ApiEntry → GroupVersionResource
    → Option ApiEntry
first_change test tables name = find (λ x. is_of name x && test x.change) tables

-- the version has such a change in the tables
abbrev pub has_change : (ApiChange → Bool) → List ApiEntry → GroupVersionResource → Bool
has_change test tables name = is_some (first_change test tables name)

-- the version is there: introduced and not removed
abbrev pub live : List ApiEntry → GroupVersionResource → Bool
live tables name =
    has_change is_introduction tables name && not (has_change is_removal tables name)

-- stored objects in the version are read: introduced and not forgotten
abbrev pub decodable : List ApiEntry → GroupVersionResource → Bool
decodable tables name =
    has_change is_introduction tables name && not (has_change is_forgetting tables name)

-- what a warning tells of a deprecation: its release, the planned removal and the version to use
pub record Deprecation : Type 0 where
  pub since : ℕ
  pub removal : ℕ
  pub replacement : List ℕ

abbrev pub deprecation_of : ℕ → ApiChange → Option Deprecation
deprecation_of since (Deprecated removal replacement) =
    Some (record { since = since; removal = removal; replacement = replacement })
deprecation_of since _ = None

-- the warning of a version: its first deprecation in the tables, while it is live
abbrev pub warning : List ApiEntry → GroupVersionResource → Option Deprecation
warning tables name =
    cond (live tables name)
    (option_and_then (λ x. deprecation_of x.since x.change)
    (first_change is_deprecation tables name)) None
