use Rattle.std.proofs.Common.{◌∙◌, subst}
use Rattle.schemas.specs.Dated.{IsShaped}
use Rattle.release_view.proofs.GateLemmas.{values_fit}
use Rattle.release_view.proofs.law.texts_make_view.Goals as goal

pub returns : goal.returns
returns c = record {
  from = c.requires.from;
  to = c.requires.to;
  valued = values_fit c.args.a.now (subst IsShaped (c.history.view_is ∙ c.history-history.ensures.same) c.history.invariant) c.history-history.ensures.accepted c.args.e c.args.features.now c.requires.features c.args.gates.now c.requires.gates;
  lives = λ name there. ((c.requires.on.exact name).0 there).live;
}
