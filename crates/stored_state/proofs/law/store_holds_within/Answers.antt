use Rattle.stored_state.proofs.LawLemmas.{holds_within}
use Rattle.stored_state.proofs.law.store_holds_within.Goals as goal

pub returns : goal.returns
returns c = holds_within c.args.store.now
