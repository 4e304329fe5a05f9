use Rattle.history_rules.proofs.DateLemmas.{puts, on_ok}
use Rattle.history_rules.proofs.dates.put_earlier.Goals as goal

pub returns : goal.returns
returns c = on_ok c.put.result (puts c.args.entry.now c.args.dates.now c.put.new.map c.bytes-group.result.now c.bytes-version.result.now c.bytes-resource.result.now c.value_of.result c.earlier-date.result c.bytes-group.ensures c.bytes-version.ensures c.bytes-resource.ensures c.value_of.ensures c.earlier-date.ensures) c.put.ensures.ok
