use Rattle.request_body.proofs.GivenLemmas.{misses_once}
use Rattle.request_body.proofs.law.one_field_is_first_missing.Goals as goal

pub returns : goal.returns
returns c = misses_once c.args.table.now.rows c.args.fields.now
