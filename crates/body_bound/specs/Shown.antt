-- How long the text is that shows fields which the body of a request was read as.
use Rattle.std.specs.Prelude.{◌≡◌, ℕ, ◌+◌, ◌*◌, ◌≤◌, List, Some, None, length}
use Rattle.body_bound.specs.Held.{held_bytes}
use Rattle.conversion.specs.Reading.{Reads}
use Rattle.conversion.specs.Whole.{IsWhole}
use Rattle.conversion.specs.declared.mode.Mode.{Mode}
use Rattle.fields.specs.Map.{value_at}
use Rattle.fields.specs.declared.map.FieldPair.{FieldPair}
use Rattle.fields.specs.declared.table.FieldRow.{FieldRow}
use Rattle.fields.specs.declared.table.VersionTable.{VersionTable}
use Rattle.fields.specs.declared.value.FieldValue.{FieldValue}
use Rattle.serde_json.specs.Data.{Data}
use Rattle.serde_json.specs.Read.{read}
use Rattle.serde_json.specs.Written.{compact_text}

-- ---- of any fields

-- the object without metadata is written in at most six bytes for each byte of its texts, and 1,800
-- for each row: eight names of at most 32 bytes, and a number
abbrev pub ShowsWithin : VersionTable → Type 0
ShowsWithin table = (version : List ℕ) (held : List FieldPair) (tree : Data)
    → IsWhole table version held None tree
    → length (compact_text tree)
    ≤ 6 * held_bytes table.rows held + 1800 * length table.rows
    + 6 * (length version + length table.kind) + 200

-- ---- of the fields of a request

-- so many bytes a request's body has at most
abbrev pub longest_request : ℕ
longest_request = 65536

-- the bytes are short enough for a body, and are read by the rows as these fields
pub record IsRequestRead
    (mode : Mode) (rows : List FieldRow) (bytes : List ℕ) (held : List FieldPair)
    : Type 0 where
  pub short : length bytes ≤ longest_request
  pub tree : Data
  pub text : read bytes ≡ Some tree
  pub reads : Reads mode rows tree held

-- what the one map holds, the other holds too
abbrev pub HoldsLess : List FieldPair → List FieldPair → Type 0
HoldsLess kept held = (id : List ℕ) (value : FieldValue)
    → value_at kept id ≡ Some value → value_at held id ≡ Some value

-- `group/version`, of at most 63 bytes each, and a kind of at most 63 bytes
pub record HasShortNames (version kind : List ℕ) : Type 0 where
  pub versioned : length version ≤ 127
  pub of_kind : length kind ≤ 63

-- so many bytes the text has at most
abbrev pub longest_shown : ℕ
longest_shown = 904000

-- fields that a body was read as by the one table, or some of them, are shown by the other in so many
-- bytes at most
abbrev pub BodyIsWithin : VersionTable → VersionTable → Type 0
BodyIsWithin table shown = (mode : Mode) (bytes : List ℕ) (held kept : List FieldPair)
    (version : List ℕ) (tree : Data)
    → IsRequestRead mode table.rows bytes held → HoldsLess kept held
    → HasShortNames version shown.kind → IsWhole shown version kept None tree
    → length (compact_text tree) ≤ longest_shown
