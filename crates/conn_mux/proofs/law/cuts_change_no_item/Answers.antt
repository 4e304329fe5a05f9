use Rattle.conn_mux.proofs.OrderLemmas.{items_of_stream, nothing_given}
use Rattle.conn_mux.proofs.law.cuts_change_no_item.Goals as goal

pub returns : goal.returns
returns c = record { held = items_of_stream c.args.c; other = nothing_given c.args.c }
