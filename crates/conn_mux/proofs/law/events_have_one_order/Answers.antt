use Rattle.conn_mux.proofs.OrderLemmas.{one_order, order_kept}
use Rattle.conn_mux.proofs.law.events_have_one_order.Goals as goal

pub returns : goal.returns
returns c = record { one = one_order; kept = order_kept }
