use Rattle.object_journal.proofs.PartLemmas.{no_second}
use Rattle.object_journal.proofs.parting.take_two.Goals as goal

pub returns-in_default-take_text-clause-none : goal.returns-in_default-take_text-clause-none
returns-in_default-take_text-clause-none c = no_second c.args.bytes.now _ _ c.in-Some.ensures.some c.in_default-take_text.ensures.none
