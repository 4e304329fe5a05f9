-- What can be copied of an object.
use Rattle.std.specs.Prelude.{◌≡◌, false, IfSome}
use Rattle.conversion.specs.Whole.{metadata}
use Rattle.serde_json.specs.Data.{Data}
use Rattle.serde_json.specs.Find.{get}
use Rattle.serde_json.specs.Written.{has_float}

-- each number in the object's metadata is a whole one, of 64 bits
abbrev pub HasWholeMetadata : Data → Type 0
HasWholeMetadata tree = IfSome (get metadata tree) (λ json. has_float json ≡ false)
