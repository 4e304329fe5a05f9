use Rattle.object_journal.specs.Parts.{key_seen}
use Rattle.object_journal.proofs.PartLemmas.{no_change}
use Rattle.object_journal.proofs.parting.take_payload.Goals as goal

pub returns-in_default-change_of-clause-none : goal.returns-in_default-change_of-clause-none
returns-in_default-change_of-clause-none c =
    let numbers = c.in-Some.ensures.some in
    no_change c.args.bytes.now c.in-Some.tag c.in-Some.revision c.in-Some.created c.in-Some.rest.now (key_seen c.in-Some-take_key.key) c.in-Some-take_key.body.now numbers.0 numbers.1 c.in-Some-take_key.ensures.some c.in_default-change_of.ensures.none
