use Rattle.serde_json.specs.View.{view as tree_of}
use Rattle.body_bound.proofs.HeldLemmas.{holds_within}
use Rattle.body_bound.proofs.law.held_texts_are_within.Goals as goal

pub returns : goal.returns
returns c = holds_within c.args.table.now.rows (tree_of c.args.json.now) c.requires
