-- Two histories that say the same at a release.
use Rattle.std.specs.Prelude.{◌≡◌, ◌≤◌, ◌↔◌, ℕ, List, true}
use Rattle.fields.specs.declared.table.FieldRow.{FieldRow}
use Rattle.gate_flags.specs.Laws.{IsTakenAlike as GatesAreTakenAlike}
use Rattle.gate_flags.specs.Values.{Gates}
use Rattle.gate_spec.specs.Gates.{cutoff as gate_cutoff}
use Rattle.gate_spec.specs.Same.{AreSameGates}
use Rattle.lifecycle.specs.Entry.{GroupVersionResource}
use Rattle.lifecycle.specs.Same.{AreSameVersions}
use Rattle.lifecycle.specs.Tables.{cutoff, decodable}
use Rattle.row_index.specs.Laws.{AreRowsOf, source_at}
use Rattle.runtime_config.specs.Laws.{IsTakenAlike as VersionsAreTakenAlike}
use Rattle.schemas.specs.Dated.{Dated}
use Rattle.schemas.specs.Rules.{first_of, last_of}
use Rattle.release_view.specs.Views.{Viewed, IsViewable, IsViewOf, IsViewByTexts}

-- the versions that objects are read in have the same rows, whichever gates are on
abbrev pub HaveSameRows : Dated → Dated → ℕ → Type 0
HaveSameRows h k e =
    (gates : Gates) (name : GroupVersionResource) → decodable (cutoff h.apis e) name ≡ true →
    (rows : List FieldRow) →
    AreRowsOf (source_at h e gates) name rows ↔ AreRowsOf (source_at k e gates) name rows

-- at the release both have the same gates and the same versions, with the same rows
pub record HaveSameTables (h k : Dated) (e : ℕ) : Type 0 where
  pub gates : AreSameGates (gate_cutoff h.gates e) (gate_cutoff k.gates e)
  pub versions : AreSameVersions (cutoff h.apis e) (cutoff k.apis e)
  pub rows : HaveSameRows h k e

-- the history speaks of the release
pub record SpeaksOf (h : Dated) (e : ℕ) : Type 0 where
  pub from : first_of h ≤ e
  pub to : e ≤ last_of h

-- the release may be viewed by one with the gates and served versions with which it may be viewed by the other, and
-- has the same view, so that all that is looked up in it, and each page, is the same
pub record HaveSameViews (h k : Dated) (e : ℕ) : Type 0 where
  pub viewable : (gates : Gates) (on_names : List GroupVersionResource) →
      IsViewable h e gates on_names ↔ IsViewable k e gates on_names
  pub same : (gates : Gates) (on_names : List GroupVersionResource) (v : Viewed) →
      IsViewOf h e gates on_names v ↔ IsViewOf k e gates on_names v
  pub one : (gates : Gates) (on_names : List GroupVersionResource) (v w : Viewed) →
      IsViewOf h e gates on_names v → IsViewOf k e gates on_names w → v ≡ w

-- the same texts are taken by both, with the same values and served versions, and make the same view
pub record TakeSameTexts (h k : Dated) (e : ℕ) : Type 0 where
  pub gates : (text : List ℕ) →
      GatesAreTakenAlike (gate_cutoff h.gates e) (gate_cutoff k.gates e) text
  pub versions : (text : List ℕ) → VersionsAreTakenAlike (cutoff h.apis e) (cutoff k.apis e) text
  pub views : (features config : List ℕ) (v : Viewed) →
      IsViewByTexts h e features config v ↔ IsViewByTexts k e features config v
