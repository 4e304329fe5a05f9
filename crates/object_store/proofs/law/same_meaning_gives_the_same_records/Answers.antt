use Rattle.object_store.proofs.OpenLemmas.{keeps}
use Rattle.object_store.proofs.law.same_meaning_gives_the_same_records.Goals as goal

pub returns : goal.returns
returns c = keeps c.args.old.now c.args.new.now c.requires
