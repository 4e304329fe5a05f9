use Rattle.std.proofs.Common.{refl}
use Rattle.discovery.proofs.law.metrics_are_exact.Goals as goal

pub returns : goal.returns
returns c = record {
  lines = refl;
  order = c.view_is_kept.ensures.gates.rows;
  found = λ history e on_names is. is.viewable.valued.found;
}
