use Rattle.stored_state.proofs.LawLemmas.{one_answer}
use Rattle.stored_state.proofs.law.records_have_one_answer.Goals as goal

pub returns : goal.returns
returns c = one_answer c.args.back.now c.args.view.now c.args.store.now.items
