use Rattle.stored_change.proofs.ChangeLemmas.{held_there, not_full, same_created}
use Rattle.stored_change.proofs.entry.ready_change.Goals as goal

pub ready_object-requires-clause-fits : goal.ready_object-requires-clause-fits
ready_object-requires-clause-fits c = λ table found. c.requires.storable.of_server.fits c.in-Some.object table c.in-Some.is found

pub ready_object-requires-clause-room : goal.ready_object-requires-clause-room
ready_object-requires-clause-room c = not_full c.args.store.now.items c.args.store.now.journal.revision c.args.back.now c.args.view.now c.args.state.now.state c.args.change.now c.requires.stands c.requires.storable

pub ready_object-requires-clause-created : goal.ready_object-requires-clause-created
ready_object-requires-clause-created c =
    same_created c.args.store.now.items c.args.store.now.journal.revision c.args.back.now c.args.view.now c.args.state.now.state c.args.change.now c.requires.stands c.requires.storable c.in-Some.object c.in-Some.is

pub ready_removal-requires-clause-held : goal.ready_removal-requires-clause-held
ready_removal-requires-clause-held c =
    held_there c.args.store.now.items c.args.store.now.journal.revision c.args.back.now c.args.view.now c.args.state.now.state c.args.change.now c.requires.stands c.requires.storable (c.requires.storable.of_server.held c.in-None.is)
