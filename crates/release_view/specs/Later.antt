-- Two views of one history, of releases that aren't far apart.
use Rattle.std.specs.Prelude.{◌≡◌, ◌+◌, ◌≤◌, ℕ, List, true, Contains, Some, IsSome, IsTrue}
use Rattle.fields.specs.declared.table.VersionTable.{VersionTable}
use Rattle.lifecycle.specs.Entry.{GroupVersionResource}
use Rattle.schemas.specs.Dated.{Dated}
use Rattle.schemas.specs.Laws.{AreThoseThere}
use Rattle.schemas.specs.Rules.{IsAccepted}
use Rattle.release_view.specs.Known.{name_of, table_name}
use Rattle.release_view.specs.Views.{Viewed, IsViewOf, table_in, has_live, best_table_in}
use Rattle.release_view.specs.declared.known.KnownVersion.{KnownVersion}

-- both are views of the history, which is accepted; the first is of a release not above the second's and at most three
-- below it
pub record AreOfOneHistory (history : Dated) (back view : Viewed) : Type 0 where
  pub accepted : IsAccepted history
  pub back_on : List GroupVersionResource
  pub of_back : IsViewOf history back.minor back.gates back_on back
  pub on : List GroupVersionResource
  pub of_view : IsViewOf history view.minor view.gates on view
  pub not_above : back.minor ≤ view.minor
  pub near : view.minor ≤ back.minor + 3

-- what is live in the earlier view is live, or at least read, in the later one: a kind stays live, a live version has
-- a table, and so has the most stable one. A version's table in the earlier view has the rows that it has in the later
-- one of those fields that are dated by the earlier release, but for which of them are on
pub record ReadsLive (history : Dated) (back view : Viewed) : Type 0 where
  pub kinds : (group resource : List ℕ) →
      has_live back.versions group resource ≡ true → has_live view.versions group resource ≡ true
  pub versions : (v : KnownVersion) → Contains back.versions v → IsTrue v.live →
      IsSome (table_in view.versions (name_of v))
  pub best : (group resource : List ℕ) (t : VersionTable) →
      best_table_in back.versions group resource ≡ Some t →
      IsSome (table_in view.versions (table_name t))
  pub rows : (name : GroupVersionResource) (older newer : VersionTable) →
      table_in back.versions name ≡ Some older → table_in view.versions name ≡ Some newer →
      AreThoseThere history.fields name back.minor older.rows newer.rows

-- of whichever history both are views, the later one reads what is live in the earlier one
abbrev pub ReadsLiveOf : Viewed → Viewed → Type 0
ReadsLiveOf back view =
    (history : Dated) → AreOfOneHistory history back view → ReadsLive history back view
