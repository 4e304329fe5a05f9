-- The names of the arrays in a history document.
use Rattle.std.specs.Prelude.{ℕ, List, codes}
use Rattle.schemas.specs.declared.array.Array.{Array}
use Rattle.schemas.specs.declared.array.Array.TheVariants.{Top, Gate, Api, Field, Spell}

abbrev pub array_name : Array → List ℕ
array_name Top = codes "top"
array_name Gate = codes "gate"
array_name Api = codes "api"
array_name Field = codes "field"
array_name Spell = codes "spell"
