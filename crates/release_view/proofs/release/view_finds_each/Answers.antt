use Rattle.std.proofs.Common.{subst}
use Rattle.release_view.specs.Kept.{IsKept}
use Rattle.release_view.proofs.KeptLemmas.{finds_each}
use Rattle.release_view.proofs.release.view_finds_each.Goals as goal

pub returns : goal.returns
returns c = finds_each c.args.view.now (subst IsKept c.view.view_is c.view.invariant.kept)
