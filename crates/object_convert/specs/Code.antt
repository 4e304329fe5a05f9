-- What functions of this crate give on their way.
use Rattle.std.specs.Prelude.{◌≡◌, List, [], ◌∷◌}
use Rattle.conversion.specs.declared.fault.ReadCause.TheVariants.{NotInt}
use Rattle.fields.specs.declared.table.FieldRow.{FieldRow}
use Rattle.serde_json.specs.Data.{Data}
use Rattle.object_convert.specs.Convert.{IsUnreadable}
use Rattle.conversion.specs.Whole.{metadata}
use Rattle.object_convert.specs.declared.fault.ConvertFault.{ConvertFault}
use Rattle.object_convert.specs.declared.fault.ConvertFault.TheVariants.{Bad, Memory}

-- why an object can't be read in its version, or want of memory
abbrev pub IsObjectFault : List FieldRow → Data → ConvertFault → Type 0
IsObjectFault rows tree (Bad path cause) = IsUnreadable rows tree path cause
IsObjectFault rows tree Memory = Unit {0}
IsObjectFault rows tree _ = ⊥

-- the fault is that of metadata, or want of memory
abbrev pub IsMetadataFault : ConvertFault → Type 0
IsMetadataFault (Bad path cause) = (path ≡ metadata ∷ []) × (cause ≡ NotInt)
IsMetadataFault Memory = Unit {0}
IsMetadataFault _ = ⊥
