use Rattle.world.proofs.RuleLemmas.{last_in_turn}
use Rattle.world.proofs.law.lawful_events_are_in_turn.Goals as goal

pub returns : goal.returns
returns c = last_in_turn
