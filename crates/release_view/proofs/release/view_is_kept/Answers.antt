use Rattle.std.proofs.Common.{subst}
use Rattle.release_view.specs.Kept.{IsKept}
use Rattle.release_view.proofs.release.view_is_kept.Goals as goal

pub returns : goal.returns
returns c = subst IsKept c.view.view_is c.view.invariant.kept
