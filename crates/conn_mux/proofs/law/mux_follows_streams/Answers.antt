use Rattle.conn_mux.proofs.FollowLemmas.{follows_opening, follows_piece, follows_drop, follows_taking, has_given_all}
use Rattle.conn_mux.proofs.law.mux_follows_streams.Goals as goal

pub returns : goal.returns
returns c = record {
  opening = follows_opening c.args.c;
  piece = follows_piece c.args.c;
  dropping = follows_drop c.args.c;
  taking = follows_taking c.args.c;
  all = has_given_all c.args.c;
}
