use Rattle.key_order.proofs.ChangeLemmas.{key_not_there}
use Rattle.key_order.proofs.keyed.held.Goals as goal

pub returns-in-Err-clause-none : goal.returns-in-Err-clause-none
returns-in-Err-clause-none g c = λ held. key_not_there g.T.Keyed.key_of c.args.items.now c.args.key.now c.in-Err.field-0 c.requires c.in-Err.ensures.gap held
