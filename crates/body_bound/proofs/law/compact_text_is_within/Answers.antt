use Rattle.serde_json.specs.View.{view as tree_of}
use Rattle.body_bound.proofs.RoomLemmas.{writes_within}
use Rattle.body_bound.proofs.law.compact_text_is_within.Goals as goal

pub returns : goal.returns
returns c = writes_within (tree_of c.args.json.now)
