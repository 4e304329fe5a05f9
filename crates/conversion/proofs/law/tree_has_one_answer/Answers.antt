use Rattle.serde_json.specs.View.{view}
use Rattle.conversion.proofs.ReadLemmas.{reads_as_one, faultless}
use Rattle.conversion.proofs.FaultLemmas.{one_fault}
use Rattle.conversion.proofs.law.tree_has_one_answer.Goals as goal

pub returns : goal.returns
returns c = record {
  one_map = reads_as_one c.args.mode c.args.table.now.rows (view c.args.json.now);
  one_fault = one_fault c.args.mode c.args.table.now.rows (view c.args.json.now);
  either = faultless c.args.mode c.args.table.now.rows (view c.args.json.now);
}
