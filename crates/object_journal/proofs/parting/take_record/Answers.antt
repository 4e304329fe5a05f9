use Rattle.std.proofs.Common.{◌+◌, arith, refl}
use Rattle.object_journal.specs.Parts.{entry_seen}
use Rattle.object_journal.proofs.PartLemmas.{record_at, no_record}
use Rattle.object_journal.proofs.parting.take_record.Goals as goal

pub returns-in-Some-take_payload-clause-some : goal.returns-in-Some-take_payload-clause-some
returns-in-Some-take_payload-clause-some c = record_at c.args.bytes.now c.in-Some.rest.now c.in-Some.size (4 + c.in-Some.size) (entry_seen c.in-Some-take_payload.entry) c.in-Some.ensures.some (omega (arith, c.if-size-gt-LONGEST_PAYLOAD.false)) (omega (arith, c.if-rest-size.false)) refl c.in-Some-take_payload.ensures.some

pub returns-in-None-clause-none : goal.returns-in-None-clause-none
returns-in-None-clause-none c = no_record c.args.bytes.now c.in-Some.rest.now c.in-Some.size c.in-Some.ensures.some (omega (arith, c.if-size-gt-LONGEST_PAYLOAD.false)) c.in-None.ensures.none
