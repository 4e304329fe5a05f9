use Rattle.std.proofs.Common.{◌≡◌, take}
use Rattle.release_view.specs.Served.{served_of}
use Rattle.release_view.proofs.served.served_versions.Given as goal

abbrev pub invariant-loop-version : goal.invariant-loop-version
invariant-loop-version l = l.served.items ≡ served_of (take l.version-index l.versions)
