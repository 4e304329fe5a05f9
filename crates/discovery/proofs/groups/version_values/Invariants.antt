use Rattle.std.proofs.Common.{◌≡◌, map, take}
use Rattle.serde_json.specs.View.{view}
use Rattle.discovery.specs.Groups.{version_tree}
use Rattle.discovery.proofs.groups.version_values.Given as goal

abbrev pub invariant-loop-version : goal.invariant-loop-version
invariant-loop-version l = map view l.values.items ≡ map (version_tree l.group) (map (λ w. w.now) (take l.version-index l.versions))
