-- Tables among the known versions.
use Rattle.std.proofs.Common.{◌≡◌, ◌⊎◌, ℕ, Bool, true, Some, List, Contains}
use Rattle.std.specs.Prelude.{find}
use Rattle.std.proofs.lemmas.List.Elements.{All-contains, All-contains_itself, All-weaker}
use Rattle.fields.specs.Table.{AreLawful}
use Rattle.gate_flags.specs.Values.{Gates, HasValue}
use Rattle.lifecycle.specs.Entry.{GroupVersionResource}
use Rattle.row_index.specs.Made.{is_on}
use Rattle.row_index.proofs.RowLemmas.{gate_decided}
use Rattle.schemas.specs.Cutoff.{fields_by, spells_by}
use Rattle.schemas.specs.Dated.{Dated, IsShaped}
use Rattle.schemas.specs.Rules.{IsAccepted}
use Rattle.schemas.proofs.DecisionLemmas.{decided}
use Rattle.schemas.proofs.RowLemmas.{rows_lawful, rows_alike}
use Rattle.schemas.proofs.SpelledRows.{SpellFields, spelled_rows}
use Rattle.release_view.specs.Known.{name_of, tables_at, IsKnown, AreKnown}
use Rattle.release_view.specs.Spelling.{HaveLawfulTables, SpellAlike}
use Rattle.release_view.specs.declared.known.KnownVersion.{KnownVersion}
use Rattle.release_view.proofs.ListLemmas.{found}

-- the table of a version that is found is lawful
pub lawful_found : (test : KnownVersion → Bool) (versions : List KnownVersion) (v : KnownVersion) → HaveLawfulTables versions → find test versions ≡ Some v → AreLawful v.table.rows
lawful_found test versions v lawful is = All-contains (λ w. AreLawful w.table.rows) versions v lawful (found test versions v is).0

-- whether a gate is on is decided
on_decided : (gates : Gates) (gate : List ℕ) → HasValue gates gate true ⊎ ¬ HasValue gates gate true
on_decided gates gate = decided (is_on gates (Some gate)) (gate_decided gates gate)

module _ (h : Dated) (accepted : IsAccepted h) (e : ℕ) (gates : Gates) (on_names : List GroupVersionResource) (versions : List KnownVersion) (known : AreKnown (tables_at h e gates) on_names versions) where
  is_known : (v : KnownVersion) → Contains versions v → IsKnown (tables_at h e gates) on_names v
  is_known v there = (known.exact v).0 there

  spelled : (v : KnownVersion) → Contains versions v → SpellFields (fields_by h.fields e) (spells_by h.spells e) (name_of v) v.table.rows
  spelled v there =
      spelled_rows (λ gate. HasValue gates gate true) (on_decided gates) (fields_by h.fields e) (spells_by h.spells e) (name_of v) v.table.rows
      (is_known v there).rows

  pub tables_lawful : IsShaped h → HaveLawfulTables versions
  tables_lawful shaped = All-weaker (Contains versions) (λ v. AreLawful v.table.rows) (λ v there. rows_lawful h accepted shaped (name_of v) e v.table.rows (spelled v there)) versions (All-contains_itself versions)

  pub tables_alike : SpellAlike versions
  tables_alike v w there also group resource = rows_alike h accepted (name_of v) (name_of w) e v.table.rows w.table.rows group resource (is_known v there).decodes (is_known w also).decodes (spelled v there) (spelled w also)
