-- Which groups, versions and gates the documents list.
use Rattle.std.specs.Prelude.{◌≡◌, ◌≢◌, ◌↔◌, ◌++◌, ℕ, List, [], Bool, map, Any, Contains}
use Rattle.std.specs.List.{flat_map}
use Rattle.std.specs.Cmp.Lexicographic.{slice_cmp}
use Rattle.std.specs.Ordering.{nat_cmp}
use Rattle.std.specs.List.Sorted.{IsStrictlySortedBy}
use Rattle.gate_spec.specs.Gates.{cutoff as gate_cutoff, IsFoundIn}
use Rattle.gate_spec.specs.declared.entry.Stage.{Stage}
use Rattle.lifecycle.specs.Entry.{GroupVersionResource}
use Rattle.lifecycle.specs.Stability.{by_stability}
use Rattle.lifecycle.specs.Version.{word_text}
use Rattle.lifecycle.specs.declared.version.VersionWord.{VersionWord}
use Rattle.release_view.specs.Gates.{IsRowOf}
use Rattle.release_view.specs.Served.{served_of}
use Rattle.release_view.specs.Views.{Viewed, IsViewOf}
use Rattle.release_view.specs.declared.known.KnownVersion.{KnownVersion}
use Rattle.release_view.specs.declared.served.ServedVersion.{ServedVersion}
use Rattle.discovery.specs.Groups.{names_in, versions_in}
use Rattle.discovery.specs.Metrics.{metrics_head, metric_line, metrics_page}
use Rattle.discovery.specs.Resources.{resources_in}
use Rattle.schemas.specs.Dated.{Dated}

-- the groups with a served version, but the core group, each once and in order of bytes; of each group exactly its
-- served versions
pub record AreListed (served : List ServedVersion) : Type 0 where
  pub order : IsStrictlySortedBy (slice_cmp nat_cmp) (names_in served)
  pub exact : (group : List ℕ) →
      Contains (names_in served) group ↔ ((group ≢ []) × Any (λ s. s.group ≡ group) served)
  pub versions : (group version : List ℕ) →
      Contains (versions_in served group) version
      ↔ Any (λ s. (s.group ≡ group) × (s.version ≡ version)) served

-- the texts are those of version words, the most stable first
abbrev pub AreByStability : List (List ℕ) → Type 0
AreByStability texts =
    (words : List VersionWord) × IsStrictlySortedBy by_stability words
    × (map word_text words ≡ texts)

-- the versions of a group stand in order of stability, and the resources of a version in order of bytes
pub record ListsInOrder (known : List KnownVersion) : Type 0 where
  pub versions : (group : List ℕ) → AreByStability (versions_in (served_of known) group)
  pub resources : (group version : List ℕ) →
      IsStrictlySortedBy (slice_cmp nat_cmp)
      (map (λ s. s.resource) (resources_in (served_of known) group version))

-- the rows of the view are the gates found at its release, of whichever history it is a view
abbrev pub AreGatesFound : Viewed → Type 0
AreGatesFound view =
    (history : Dated) (e : ℕ) (on_names : List GroupVersionResource) →
    IsViewOf history e view.gates on_names view →
    (name : List ℕ) (stage : Stage) (default locked : Bool) →
    Any (IsRowOf name stage default locked) view.gates.rows
    ↔ IsFoundIn (gate_cutoff history.gates e) name stage default locked

-- the metrics page has a line for each gate found, and no other, in order of bytes
pub record ListsGates (view : Viewed) : Type 0 where
  pub lines : metrics_page view ≡ metrics_head ++ flat_map metric_line view.gates.rows
  pub order : IsStrictlySortedBy (slice_cmp nat_cmp) (map (λ row. row.name) view.gates.rows)
  pub found : AreGatesFound view
