use Rattle.std.proofs.Common.{arith}
use Rattle.std.proofs.lemmas.Grind.{common_steps}
use Rattle.std.proofs.lemmas.List.Elements.{filter_map-append}
use Rattle.release_view.proofs.served.served_versions.Goals as goal

pub loop-version-preserved-then-not-version : goal.loop-version-preserved-then-not-version
loop-version-preserved-then-not-version c = grind (arith, common_steps, filter_map-append)

pub loop-version-preserved : goal.loop-version-preserved
loop-version-preserved c = grind (arith, common_steps, filter_map-append)
