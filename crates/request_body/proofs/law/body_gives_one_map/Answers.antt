use Rattle.std.proofs.Common.{option_copied}
use Rattle.request_body.proofs.GivenLemmas.{gives_once, gives_fitting, faultless_given}
use Rattle.request_body.proofs.law.body_gives_one_map.Goals as goal
use Rattle.serde_json.specs.View.{view}

pub returns : goal.returns
returns c =
    let rows = c.args.table.now.rows in
    let tree = view c.args.tree.now in
    let stored = option_copied c.args.stored in
    record {
      once = gives_once rows tree stored;
      fitting = gives_fitting rows tree stored c.requires;
      faultless = faultless_given rows tree stored;
    }
