use Rattle.stored_state.proofs.LawLemmas.{recovers_within}
use Rattle.stored_state.proofs.law.recovered_records_are_within.Goals as goal

pub returns : goal.returns
returns c = recovers_within c.args.bytes.now
