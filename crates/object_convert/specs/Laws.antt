-- What follows from the definition of conversion.
use Rattle.std.specs.Prelude.{◌≡◌, ◌≢◌, ℕ, List}
use Rattle.release_view.specs.declared.known.KnownVersion.{KnownVersion}
use Rattle.serde_json.specs.Data.{Data}
use Rattle.object_convert.specs.Convert.{Converts, IsConvertFault}
use Rattle.object_convert.specs.declared.fault.ConvertFault.{ConvertFault}
use Rattle.object_convert.specs.declared.fault.ConvertFault.TheVariants.{Memory}

-- the text is converted to at most one object, or has at most one fault beside want of memory, and not both
pub record HasOneAnswer (versions : List KnownVersion) (text to : List ℕ) : Type 0 where
  pub one_object : (shown other : Data)
      → Converts versions text to shown → Converts versions text to other → shown ≡ other
  pub one_fault : (fault other : ConvertFault)
      → IsConvertFault versions text to fault → IsConvertFault versions text to other
      → fault ≢ Memory → other ≢ Memory → fault ≡ other
  pub either : (shown : Data) (fault : ConvertFault)
      → Converts versions text to shown → IsConvertFault versions text to fault → fault ≡ Memory
