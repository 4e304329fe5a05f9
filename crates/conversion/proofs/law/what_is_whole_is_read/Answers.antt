use Rattle.conversion.proofs.WholeReadLemmas.{whole_round}
use Rattle.conversion.proofs.law.what_is_whole_is_read.Goals as goal

pub returns : goal.returns
returns c = whole_round c.args.table.now c.requires
