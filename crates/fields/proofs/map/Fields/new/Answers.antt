use Rattle.fields.proofs.MapLemmas.{no_pairs}
use Rattle.fields.proofs.map.Fields.new.Goals as goal

pub invariant_of-result : goal.invariant_of-result
invariant_of-result c = no_pairs
