use Rattle.request_body.proofs.GivenLemmas.{one_misfit, no_misfit}
use Rattle.request_body.proofs.law.body_has_one_misfit.Goals as goal
use Rattle.request_body.specs.Places.{place_seen}
use Rattle.serde_json.specs.View.{view}

pub returns : goal.returns
returns c = record {
  once = one_misfit c.args.verb (place_seen c.args.place) (view c.args.tree.now);
  none = no_misfit c.args.verb (place_seen c.args.place) (view c.args.tree.now);
}
