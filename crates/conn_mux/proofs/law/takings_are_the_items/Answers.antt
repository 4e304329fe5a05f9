use Rattle.conn_mux.proofs.StreamLemmas.{left_more, left_behind, left_none, left_completed}
use Rattle.conn_mux.proofs.law.takings_are_the_items.Goals as goal

pub returns : goal.returns
returns c = record {
  more = left_more c.args.stream.now;
  next = left_behind c.args.stream.now;
  all = left_none c.args.stream.now;
  completed = left_completed c.args.stream.now;
}
