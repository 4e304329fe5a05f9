-- Two views of one history: what is live in the earlier one is read in the later one.
use Rattle.std.proofs.Common.{◌≡◌, ◌↔◌, ℕ, Bool, true, Option, Some, None, List, Contains, sym, ◌∙◌, ap}
use Rattle.std.specs.Prelude.{IsSome, IsTrue, IfSome}
use Rattle.std.specs.Option.{is_some}
use Rattle.fields.specs.declared.field.Field.{Field}
use Rattle.fields.specs.declared.field.Spell.{Spell}
use Rattle.fields.specs.declared.table.FieldRow.{FieldRow}
use Rattle.fields.specs.declared.table.VersionTable.{VersionTable}
use Rattle.gate_flags.specs.Values.{Gates, HasValue}
use Rattle.lifecycle.specs.Entry.{GroupVersionResource}
use Rattle.lifecycle.specs.Tables.{cutoff, live}
use Rattle.lifecycle.proofs.TableLemmas.{live_dated}
use Rattle.row_index.specs.Laws.{AreRowsOf, source_at}
use Rattle.row_index.specs.Made.{is_on}
use Rattle.row_index.proofs.RowLemmas.{gate_decided}
use Rattle.schemas.specs.Dated.{Dated}
use Rattle.schemas.specs.Laws.{AreThoseThere}
use Rattle.schemas.specs.Rows.{IsRow, AreRows, AreRowsAt}
use Rattle.schemas.proofs.AcceptedLemmas as hr
use Rattle.schemas.proofs.FieldLawLemmas.{stays_decodable}
use Rattle.schemas.proofs.LawLemmas.{kinds_stay_live}
use Rattle.schemas.proofs.RowLemmas.{kept_at}
use Rattle.release_view.specs.Known.{name_of, table_name, tables_at}
use Rattle.release_view.specs.Later.{AreOfOneHistory, ReadsLive}
use Rattle.release_view.specs.Laws.{Tells}
use Rattle.release_view.specs.Views.{Viewed, table_in, has_live}
use Rattle.release_view.specs.declared.known.KnownVersion.{KnownVersion}
use Rattle.release_view.proofs.LookupLemmas.{tells}

-- ---- rows by a test of gates

module _ (P Q : List ℕ → Type 0) (same : (gate : List ℕ) → P gate ↔ Q gate) where
  guard_as : (guard : Option (List ℕ)) → IfSome guard P ↔ IfSome guard Q
  guard_as None = ((λ h. tt), (λ h. tt))
  guard_as (Some gate) = same gate

  row_as : (fields : List Field) (spells : List Spell) (name : GroupVersionResource) (row : FieldRow) → IsRow P fields spells name row → IsRow Q fields spells name row
  row_as fields spells name row is =
      let inner = is.4 in
      let on = inner.4.2 in
      let guard = guard_as is.1.gate in
      (is.0, is.1, is.2, is.3, (inner.0, inner.1, inner.2, inner.3, (inner.4.0, inner.4.1, ((λ h. guard.0 (on.0 h)), (λ h. on.1 (guard.1 h))))))

rows_as : (P Q : List ℕ → Type 0) → ((gate : List ℕ) → P gate ↔ Q gate) → (fields : List Field) (spells : List Spell) (name : GroupVersionResource) (rows : List FieldRow) → AreRows P fields spells name rows → AreRows Q fields spells name rows
rows_as P Q same fields spells name rows are = record {
  order = are.order;
  exact = λ row. (
    λ there. row_as P Q same fields spells name row ((are.exact row).0 there),
    λ is. (are.exact row).1 (row_as Q P (λ gate. let s = same gate in (s.1, s.0)) fields spells name row is),
  );
}

abbrev test_of : Gates → List ℕ → Bool
test_of gates gate = is_on gates (Some gate)

rows_at : (h : Dated) (e : ℕ) (gates : Gates) (name : GroupVersionResource) (rows : List FieldRow) → AreRowsOf (source_at h e gates) name rows → AreRowsAt h (test_of gates) name e rows
rows_at h e gates name rows are =
    let source = source_at h e gates in
    rows_as (λ gate. HasValue gates gate true) (λ gate. IsTrue (test_of gates gate)) (λ gate. let d = gate_decided gates gate in (d.1, d.0)) source.fields source.spells name rows are

-- ---- two views

module _ (history : Dated) (back view : Viewed) (one : AreOfOneHistory history back view) where
  earlier : Tells (tables_at history back.minor back.gates) one.back_on back
  earlier = tells (tables_at history back.minor back.gates) one.back_on back one.of_back.of_versions one.of_back.viewable.lives

  later : Tells (tables_at history view.minor view.gates) one.on view
  later = tells (tables_at history view.minor view.gates) one.on view one.of_view.of_versions one.of_view.viewable.lives

  live_read : (name : GroupVersionResource) → live (cutoff history.apis back.minor) name ≡ true → IsSome (table_in view.versions name)
  live_read name lives =
      (later.decodes name).1 (stays_decodable history.apis (hr.forgettings_late history one.accepted) name back.minor view.minor one.not_above one.near ((live_dated history.apis name back.minor).0 lives))

  kind_stays : (group resource : List ℕ) → has_live back.versions group resource ≡ true → has_live view.versions group resource ≡ true
  kind_stays group resource lives =
      let was = (earlier.kinds group resource).0 lives in
      let stays = kinds_stay_live history one.accepted group resource back.minor view.minor one.not_above (was.0, (live_dated history.apis _ back.minor).0 was.1) in
      (later.kinds group resource).1 (stays.0, (live_dated history.apis _ view.minor).1 stays.1)

  version_read : (v : KnownVersion) → Contains back.versions v → IsTrue v.live → IsSome (table_in view.versions (name_of v))
  version_read v there lives = live_read (name_of v) (sym ((one.of_back.of_versions.exact v).0 there).is_live ∙ lives)

  rows_kept : (name : GroupVersionResource) (older newer : VersionTable) → table_in back.versions name ≡ Some older → table_in view.versions name ≡ Some newer → AreThoseThere history.fields name back.minor older.rows newer.rows
  rows_kept name older newer was is =
      let decodes = (earlier.decodes name).0 (ap is_some was) in
      kept_at history one.accepted (test_of back.gates) (test_of view.gates) name back.minor view.minor older.rows newer.rows one.not_above decodes
      (rows_at history back.minor back.gates name older.rows (earlier.tables name older was).rows)
      (rows_at history view.minor view.gates name newer.rows (later.tables name newer is).rows)

  pub reads_live : ReadsLive history back view
  reads_live = record {
    kinds = kind_stays;
    versions = version_read;
    best = λ group resource t is. live_read (table_name t) (earlier.best group resource t is).best.is_live;
    rows = rows_kept;
  }
