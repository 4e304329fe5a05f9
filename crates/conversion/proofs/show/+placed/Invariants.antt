use Rattle.std.proofs.Common.{length}
use Rattle.conversion.proofs.show.+placed.Given as goal

abbrev pub decreases-placed : goal.decreases-placed
decreases-placed l = length l.path.now
