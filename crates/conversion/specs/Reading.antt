-- What a JSON tree reads as, and why one can't be read.
use Rattle.std.specs.Prelude.{◌≡◌, ◌≢◌, ◌⊎◌, ℕ, List, Option, Some, None, All, if◌then◌else◌}
use Rattle.basis.specs.First.{IsFirst}
use Rattle.fields.specs.Map.{IsMap, value_at}
use Rattle.fields.specs.declared.map.FieldPair.{FieldPair}
use Rattle.fields.specs.declared.table.FieldRow.{FieldRow}
use Rattle.fields.specs.declared.value.FieldValue.{FieldValue}
use Rattle.serde_json.specs.Data.{Data, null}
use Rattle.conversion.specs.Causes.{cause_of}
use Rattle.conversion.specs.Trees.{Names, Stands, IsAbsent, IsBlocked}
use Rattle.conversion.specs.Writing.{Spells}
use Rattle.conversion.specs.declared.mode.Mode.{Mode}
use Rattle.conversion.specs.declared.mode.Mode.TheVariants.{Body, Stored}
use Rattle.conversion.specs.declared.fault.ReadCause.{ReadCause}
use Rattle.conversion.specs.declared.fault.ReadFault.{ReadFault}
use Rattle.conversion.specs.declared.fault.ReadFault.TheVariants.{Bad, Memory}
use Rattle.conversion.specs.declared.fault.ReadCause.TheVariants.{NotObject}

-- ---- one row

-- a body's absent field takes its default, where its row is on; a stored object's takes none
abbrev pub default_in : Mode → FieldRow → Option FieldValue
default_in Stored row = None
default_in Body row = if row.on then row.default else None

-- a value of the field stands at its path
pub record IsHeld (tree : Data) (row : FieldRow) (value : FieldValue) : Type 0 where
  pub json : Data
  pub stands : Stands tree row.path json
  pub spelled : Spells row value json

-- the cases of a row: its field is read, or is absent
abbrev pub IsRead : Mode → Data → FieldRow → Option FieldValue → Type 0
IsRead mode tree row read = ((value : FieldValue) × (read ≡ Some value) × IsHeld tree row value)
    ⊎ (IsAbsent tree row.path × (read ≡ default_in mode row))

-- ---- all rows

-- each row meets a case, with what the map holds, and nothing else is held
pub record Reads (mode : Mode) (rows : List FieldRow) (tree : Data) (held : List FieldPair) : Type 0 where
  pub map : IsMap held
  pub each : All (λ row. IsRead mode tree row (value_at held row.id)) rows
  pub only : (id : List ℕ) → All (λ row. row.id ≢ id) rows → value_at held id ≡ None

-- ---- faults

-- something other than null stands at the path, and is no value of the field
pub record IsMisspelled (tree : Data) (row : FieldRow) : Type 0 where
  pub json : Data
  pub stands : Stands tree row.path json
  pub not_null : json ≢ null
  pub not_spelled : (value : FieldValue) → ¬ Spells row value json

-- the row meets no case, by this path and cause
abbrev pub IsFault : Data → FieldRow → Names → ReadCause → Type 0
IsFault tree row path cause = (IsBlocked tree row.path path × (cause ≡ NotObject))
    ⊎ (IsMisspelled tree row × (path ≡ row.path) × (cause ≡ cause_of row.ty row.form))

-- the row meets a case
abbrev pub MeetsCase : Mode → Data → FieldRow → Type 0
MeetsCase mode tree row = (read : Option FieldValue) × IsRead mode tree row read

-- the first row that meets no case has this path and cause
abbrev pub IsFirstFault : Mode → List FieldRow → Data → Names → ReadCause → Type 0
IsFirstFault mode rows tree path cause = (row : FieldRow)
    × IsFirst (MeetsCase mode tree) (λ r. IsFault tree r path cause) rows row

-- a fault of reading is that of the first row that meets no case, or want of memory
abbrev pub IsReadFault : Mode → List FieldRow → Data → ReadFault → Type 0
IsReadFault mode rows tree (Bad path cause) = IsFirstFault mode rows tree path cause
IsReadFault mode rows tree Memory = Unit {0}
