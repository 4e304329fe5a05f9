use Rattle.object_journal.proofs.ReaderLemmas.{begins}
use Rattle.object_journal.proofs.reader.begun.Goals as goal

pub returns : goal.returns
returns c = begins c.args.base c.new.result c.requires c.new.ensures.empty
