-- What follows from the definition of a version's rows, and what a history that is cut later knows at a release.
use Rattle.std.specs.Prelude.{◌≡◌, ◌↔◌, ℕ, List, true}
use Rattle.fields.specs.declared.field.Field.{Field}
use Rattle.fields.specs.declared.field.Spell.{Spell}
use Rattle.fields.specs.declared.table.FieldRow.{FieldRow}
use Rattle.gate_flags.specs.Values.{Gates, HasValue}
use Rattle.lifecycle.specs.Entry.{GroupVersionResource}
use Rattle.schemas.specs.Cutoff.{cutoff, fields_by, spells_by}
use Rattle.schemas.specs.Dated.{Dated}
use Rattle.schemas.specs.Rows.{AreRows}
use Rattle.row_index.specs.Source.{RowSource}

-- the rows of a version are one list
abbrev pub HasOneTable : (List ℕ → Type 0) → List Field → List Spell → GroupVersionResource → Type 0
HasOneTable IsOn fields spells name =
    (rows others : List FieldRow) →
    AreRows IsOn fields spells name rows → AreRows IsOn fields spells name others → rows ≡ others

-- the rows of a version, of what the release knows and by the values of its gates
abbrev pub AreRowsOf : RowSource → GroupVersionResource → List FieldRow → Type 0
AreRowsOf source name rows =
    AreRows (λ gate. HasValue source.gates gate true) source.fields source.spells name rows

-- what rows are made of at the release
abbrev pub source_at : Dated → ℕ → Gates → RowSource
source_at h e gates =
    record { fields = fields_by h.fields e; spells = spells_by h.spells e; gates = gates }

-- the cut history knows at the release what the whole one knows: cut at the release it is the same history, with the
-- same fields and spellings, and each version has the same rows
pub record KnowsSame (history cut : Dated) (e : ℕ) : Type 0 where
  pub again : cutoff cut e ≡ cutoff history e
  pub source : (gates : Gates) → source_at cut e gates ≡ source_at history e gates
  pub rows : (gates : Gates) (name : GroupVersionResource) (rows : List FieldRow) →
      AreRowsOf (source_at history e gates) name rows ↔ AreRowsOf (source_at cut e gates) name rows
