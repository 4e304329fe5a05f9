-- The members of a table, one more.
use Rattle.std.proofs.Common.{◌≡◌, List, [], ◌∷◌, ◌++◌}
use Rattle.std.proofs.lemmas.List.{map-append}
use Rattle.history_toml.specs.declared.members.Member.{Member}
use Rattle.history_toml.specs.Rows.{pair_of, pairs_of}

pub pairs_pushed : (ms ns : List Member) (m : Member) → ns ≡ ms ++ m ∷ [] → pairs_of ns ≡ pairs_of ms ++ pair_of m ∷ []
pairs_pushed ms ns m is = rw is (map-append pair_of ms (m ∷ []))
