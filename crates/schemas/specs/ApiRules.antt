-- The rules on versions of resources, one entry at a time (after the Kubernetes deprecation
-- policy).
use Rattle.std.specs.Prelude.{ℕ, ◌≡◌, ◌≢◌, ◌+◌, ◌<◌, ◌≤◌, ◌&&◌, List, [], Bool, Option, IsNone, IsSomeAnd, All, Any, codes}
use Rattle.std.specs.Str.{bytes_eq}
use Rattle.lifecycle.specs.Entry.{GroupVersionResource, IsIntroduction, IsRemoval, IsKnownOf, IsIntroduced, IsRemoved, IsLive}
use Rattle.lifecycle.specs.Stability.{rank_of}
use Rattle.lifecycle.specs.Version.{IsWord, word_text}
use Rattle.lifecycle.specs.declared.version.Level.{Level}
use Rattle.lifecycle.specs.declared.version.Level.TheVariants.{Ga, Beta, Alpha}
use Rattle.lifecycle.specs.declared.version.VersionWord.{VersionWord}
use Rattle.lifecycle.specs.declared.entry.ApiChange.{ApiChange}
use Rattle.lifecycle.specs.declared.entry.ApiChange.TheVariants.{Introduced, Deprecated, Removed, Forgotten}
use Rattle.lifecycle.specs.declared.entry.ApiEntry.{ApiEntry}
use Rattle.schemas.specs.Places.{last_passing}

-- y is an entry of the version of x
abbrev pub is_of_version : ApiEntry → ApiEntry → Bool
is_of_version x y =
    bytes_eq x.group y.group && bytes_eq x.version y.version && bytes_eq x.resource y.resource

-- the previous entry of the version of x
abbrev pub previous_of_version : List ApiEntry → ApiEntry → Option ApiEntry
previous_of_version earlier x = last_passing (is_of_version x) earlier

-- the version with this name
abbrev pub name_of : List ℕ → List ℕ → List ℕ → GroupVersionResource
name_of group version resource = record { group = group; version = version; resource = resource }

abbrev pub IsDeprecation : ApiChange → Type 0
IsDeprecation (Deprecated removal replacement) = Unit {0}
IsDeprecation _ = ⊥

abbrev pub IsForgetting : ApiChange → Type 0
IsForgetting Forgotten = Unit {0}
IsForgetting _ = ⊥

-- a forgetting of the version is dated at or before the release
abbrev pub IsForgotten : List ApiEntry → GroupVersionResource → ℕ → Type 0
IsForgotten entries name e = Any (λ x. IsKnownOf name e x × IsForgetting x.change) entries

-- a change of a version, with its date, behind the version's previous entry
abbrev pub IsNext : Option ApiEntry → ℕ → ApiChange → Type 0
IsNext previous since (Introduced kind singular namespaced enabled) = IsNone previous
IsNext previous since (Deprecated removal replacement) =
    IsSomeAnd previous (λ y. IsIntroduction y.change × (y.since < since))
IsNext previous since Removed = IsSomeAnd previous (λ y. IsDeprecation y.change × (y.since ≤ since))
IsNext previous since Forgotten = IsSomeAnd previous (λ y. IsRemoval y.change × (y.since < since))

-- HR6: the entries of a version are introduced, deprecated, removed, forgotten, in this order, and
-- dated so
abbrev pub StandsInOrder : List ApiEntry → ApiEntry → Type 0
StandsInOrder earlier x = IsNext (previous_of_version earlier x) x.since x.change

-- two introductions agree in kind, singular and scope
abbrev pub AgreeInKind : ApiChange → ApiChange → Type 0
AgreeInKind (Introduced kind singular namespaced enabled)
    (Introduced kind' singular' namespaced' enabled') =
    (kind ≡ kind') × (singular ≡ singular') × (namespaced ≡ namespaced')
AgreeInKind _ _ = Unit {0}

-- two introductions differ in kind
abbrev pub DifferInKind : ApiChange → ApiChange → Type 0
DifferInKind (Introduced kind singular namespaced enabled)
    (Introduced kind' singular' namespaced' enabled') =
    kind ≢ kind'
DifferInKind _ _ = Unit {0}

-- within a group, introductions of one resource agree in kind, and those of two resources differ
pub record KeepKindsApart (x y : ApiEntry) : Type 0 where
  pub agree : x.group ≡ y.group → x.resource ≡ y.resource → AgreeInKind x.change y.change
  pub differ : x.group ≡ y.group → x.resource ≢ y.resource → DifferInKind x.change y.change

-- no resource is `namespaces`, and the core group has only `v1`
pub record HasLawfulName (x : ApiEntry) : Type 0 where
  pub no_namespaces : x.resource ≢ codes "namespaces"
  pub core : x.group ≡ [] → x.version ≡ codes "v1"

-- HR7: the entry has a lawful name, and keeps its kind apart from those of the entries before it
abbrev pub NamesItsKind : List ApiEntry → ApiEntry → Type 0
NamesItsKind earlier x = HasLawfulName x × All (KeepKindsApart x) earlier

-- for how many releases a deprecated version of this level stays
abbrev pub notice_of : Level → ℕ
notice_of Ga = 3
notice_of (Beta n) = 3
notice_of (Alpha n) = 0

-- a deprecation leaves time, in favour of another version of the same resource that is there by
-- then and isn't of a lower level
pub record IsFairBetween (all : List ApiEntry) (x : ApiEntry) (removal : ℕ) (replacement : List ℕ)
    (own other : Level) : Type 0 where
  pub notice : x.since + notice_of own ≤ removal
  pub another : x.version ≢ replacement
  pub level : rank_of other ≤ rank_of own
  pub introduced : IsIntroduced all (name_of x.group replacement x.resource) x.since

-- the same, with the levels that the two versions have by their words
pub record IsFairDeprecation (all : List ApiEntry) (x : ApiEntry) (removal : ℕ)
    (replacement : List ℕ) : Type 0 where
  pub own : VersionWord
  pub other : VersionWord
  pub own_word : IsWord own × (x.version ≡ word_text own)
  pub other_word : IsWord other × (replacement ≡ word_text other)
  pub fair : IsFairBetween all x removal replacement own.level other.level

abbrev pub IsFairChange : List ApiEntry → ApiEntry → ApiChange → Type 0
IsFairChange all x (Deprecated removal replacement) = IsFairDeprecation all x removal replacement
IsFairChange all x _ = Unit {0}

-- HR8: a deprecation is fair
abbrev pub DeprecatesFairly : List ApiEntry → List ApiEntry → ApiEntry → Type 0
DeprecatesFairly all earlier x = IsFairChange all x x.change

-- a removal of x is dated as the deprecation plans it, and the replacement is live then
abbrev pub IsPlanned : List ApiEntry → ApiEntry → ApiChange → Type 0
IsPlanned all x (Deprecated removal replacement) =
    (x.since ≡ removal) × IsLive all (name_of x.group replacement x.resource) x.since
IsPlanned all x _ = ⊥

abbrev pub IsKept : List ApiEntry → ℕ → Option ApiEntry → ApiEntry → ApiChange → Type 0
IsKept all last previous x (Deprecated removal replacement) =
    removal ≤ last → IsRemoved all (name_of x.group x.version x.resource) last
IsKept all last previous x Removed = IsSomeAnd previous (λ y. IsPlanned all x y.change)
IsKept all last previous x _ = Unit {0}

-- HR9: a removal comes exactly as planned, and one that is planned not after last has come
abbrev pub KeepsPlan : List ApiEntry → ℕ → List ApiEntry → ApiEntry → Type 0
KeepsPlan all last earlier x = IsKept all last (previous_of_version earlier x) x x.change

-- y deprecates a version in favour of that of x
abbrev pub IsInFavourOf : ApiEntry → ApiEntry → ApiChange → Type 0
IsInFavourOf x y (Deprecated removal replacement) =
    (x.group ≡ y.group) × (x.version ≡ replacement) × (x.resource ≡ y.resource)
IsInFavourOf x y _ = ⊥

-- a forgetting comes at least three releases after the removal, which is the version's previous
-- entry
abbrev pub IsLateAfter : Option ApiEntry → ℕ → Type 0
IsLateAfter previous since = IsSomeAnd previous (λ y. IsRemoval y.change × (y.since + 3 ≤ since))

-- where y deprecates its version in favour of that of x, that version is forgotten not later than x
-- is dated
abbrev pub IsForgottenBefore : List ApiEntry → ApiEntry → ApiEntry → Type 0
IsForgottenBefore all x y =
    IsInFavourOf x y y.change → IsForgotten all (name_of y.group y.version y.resource) x.since

-- each version deprecated in favour of that of x is forgotten not later than x is dated
abbrev pub AreForgottenFirst : List ApiEntry → ApiEntry → Type 0
AreForgottenFirst all x = All (IsForgottenBefore all x) all

abbrev pub IsForgottenLate : List ApiEntry → Option ApiEntry → ApiEntry → ApiChange → Type 0
IsForgottenLate all previous x Forgotten = IsLateAfter previous x.since × AreForgottenFirst all x
IsForgottenLate all previous x _ = Unit {0}

-- HR10: a version is forgotten late enough
abbrev pub ForgetsLate : List ApiEntry → List ApiEntry → ApiEntry → Type 0
ForgetsLate all earlier x = IsForgottenLate all (previous_of_version earlier x) x x.change
