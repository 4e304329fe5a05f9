-- What a list of dated changes says of a version of a resource at a release.
use Rattle.std.specs.Prelude.{◌≡◌, ℕ, ◌≤◌, List, Any}
use Rattle.lifecycle.specs.declared.entry.ApiEntry.{ApiEntry}
use Rattle.lifecycle.specs.declared.entry.ApiName.{ApiName}
use Rattle.lifecycle.specs.declared.entry.ApiChange.{ApiChange}
use Rattle.lifecycle.specs.declared.entry.ApiChange.TheVariants.{Introduced, Removed}

-- a version of a resource, by its three texts
pub record GroupVersionResource : Type 0 where
  pub group : List ℕ
  pub version : List ℕ
  pub resource : List ℕ

abbrev pub named : ApiName → GroupVersionResource
named name = record {
  group = name.group.now;
  version = name.version.now;
  resource = name.resource.now;
}

-- the version of which the entry speaks
abbrev pub subject : ApiEntry → GroupVersionResource
subject x = record { group = x.group; version = x.version; resource = x.resource }

abbrev pub IsIntroduction : ApiChange → Type 0
IsIntroduction (Introduced kind singular namespaced enabled) = Unit {0}
IsIntroduction _ = ⊥

abbrev pub IsRemoval : ApiChange → Type 0
IsRemoval Removed = Unit {0}
IsRemoval _ = ⊥

-- the entry speaks of this version, and is dated at or before the release
pub record IsKnownOf (name : GroupVersionResource) (e : ℕ) (x : ApiEntry) : Type 0 where
  pub group : x.group ≡ name.group
  pub version : x.version ≡ name.version
  pub resource : x.resource ≡ name.resource
  pub dated : x.since ≤ e

-- an introduction of the version is dated at or before the release
abbrev pub IsIntroduced : List ApiEntry → GroupVersionResource → ℕ → Type 0
IsIntroduced entries name e = Any (λ x. IsKnownOf name e x × IsIntroduction x.change) entries

-- a removal of the version is dated at or before the release
abbrev pub IsRemoved : List ApiEntry → GroupVersionResource → ℕ → Type 0
IsRemoved entries name e = Any (λ x. IsKnownOf name e x × IsRemoval x.change) entries

-- the version is there at the release: introduced and not removed
abbrev pub IsLive : List ApiEntry → GroupVersionResource → ℕ → Type 0
IsLive entries name e = IsIntroduced entries name e × ¬ IsRemoved entries name e
