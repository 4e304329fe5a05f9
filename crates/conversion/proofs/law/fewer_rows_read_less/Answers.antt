use Rattle.conversion.proofs.LessLemmas.{reads_less}
use Rattle.conversion.proofs.law.fewer_rows_read_less.Goals as goal

pub returns : goal.returns
returns c = reads_less c.args.table.now.rows c.args.later.now.rows c.requires
