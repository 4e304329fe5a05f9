use Rattle.stored_state.proofs.ReadingLemmas.{stands}
use Rattle.stored_state.proofs.reading.read_state.Goals as goal

pub returns-clause-stands : goal.returns-clause-stands
returns-clause-stands c =
    stands c.args.back.now c.args.view.now c.args.store.now.items c.items-items.result.now c.args.store.now.journal.revision c.revision.result c.made_of.result c.in_ok-objects.objects.items
    c.items-items.ensures.items c.revision.ensures c.made_of.ensures c.in_ok-objects.ensures.ok c.in_ok-objects.ensures.both
