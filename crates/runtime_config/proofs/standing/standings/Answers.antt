use Rattle.runtime_config.proofs.StandingLemmas.{standings_at}
use Rattle.runtime_config.proofs.standing.standings.Goals as goal

pub loop-row-preserved : goal.loop-row-preserved
loop-row-preserved c =
    standings_at c.args.index.now c.args.e c.args.rows.now c.loop-row.row-index c.row-item.result c.own_standing.result c.loop-row.known c.take_in.new.known c.loop-row-test.true c.row-item.is c.requires c.own_standing.ensures c.in_ok-take_in.ensures
    c.loop-row.invariant
