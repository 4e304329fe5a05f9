use Rattle.std.proofs.Common.{Ok}
use Rattle.fields.proofs.MapLemmas.{place_read, after_set}
use Rattle.fields.proofs.map.put_in.Goals as goal

pub returns-in-Ok-clause-map : goal.returns-in-Ok-clause-map
returns-in-Ok-clause-map c =
    let pairs = c.args.pairs.now.items in
    (after_set pairs (record { id = c.args.id; value = c.args.value }) c.in-Ok.i c.requires (place_read pairs c.as_slice.result.now c.args.id c.bytes.result.now (Ok c.in-Ok.i) c.as_slice.ensures.value c.bytes.ensures c.in-Ok.ensures)).map

pub returns-in-Ok-clause-ok : goal.returns-in-Ok-clause-ok
returns-in-Ok-clause-ok c =
    let pairs = c.args.pairs.now.items in
    (after_set pairs (record { id = c.args.id; value = c.args.value }) c.in-Ok.i c.requires (place_read pairs c.as_slice.result.now c.args.id c.bytes.result.now (Ok c.in-Ok.i) c.as_slice.ensures.value c.bytes.ensures c.in-Ok.ensures)).changed
