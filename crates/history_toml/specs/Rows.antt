-- The members of a table, as the program has them.
use Rattle.std.specs.Prelude.{List, map, Vec, string_bytes}
use Rattle.std.specs.declared.alloc.Global.{Global}
use Rattle.toml.specs.Data.{Data, string, integer, boolean}
use Rattle.history_toml.specs.declared.members.Member.{Member}
use Rattle.history_toml.specs.declared.members.Scalar.{Scalar}
use Rattle.history_toml.specs.declared.members.Scalar.TheVariants.{Text, Number, Flag}
use Rattle.history_toml.specs.Tables.{Pair}

abbrev pub data_of : Scalar → Data
data_of (Text s) = string (string_bytes s)
data_of (Number z) = integer z
data_of (Flag b) = boolean b

abbrev pub pair_of : Member → Pair
pair_of m = (m.name.now, data_of m.value)

abbrev pub pairs_of : List Member → List Pair
pairs_of ms = map pair_of ms

abbrev pub row_pairs : Vec Member Global → List Pair
row_pairs row = pairs_of row.items
