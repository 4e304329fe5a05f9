use Rattle.std.proofs.Common.{◌≢◌, ◌<◌, take}
use Rattle.serde_json.specs.Data.{null}
use Rattle.serde_json.specs.View.{view}
use Rattle.conversion.specs.Trees.{Stands}
use Rattle.conversion.proofs.reach.reach.Given as goal

-- the names so far lead to the present value, which isn't null
abbrev pub invariant-loop-i : goal.invariant-loop-i
invariant-loop-i l = Stands (view l.json) (take l.i l.path) (view l.current) × (0 < l.i → view l.current ≢ null)
