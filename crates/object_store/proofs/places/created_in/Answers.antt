use Rattle.object_store.proofs.NextLemmas.{created_of_held}
use Rattle.object_store.proofs.places.created_in.Goals as goal

pub returns-in-Some : goal.returns-in-Some
returns-in-Some c = created_of_held c.args.items.now c.args.key.now c.args.next c.in-Some.item.now c.requires c.in-Some.ensures.some.0 c.in-Some.ensures.some.1
