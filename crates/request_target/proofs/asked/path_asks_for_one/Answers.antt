use Rattle.std.proofs.Common.{◌∙◌, sym, ap}
use Rattle.std.specs.Prelude.{option_and_then}
use Rattle.request_target.specs.Targets.{asked_in}
use Rattle.request_target.proofs.asked.path_asks_for_one.Goals as goal

pub returns : goal.returns
returns c = λ a b h k.
    h.2 ∙ ap (option_and_then (asked_in c.args.view.now)) (c.path_has_one_route.ensures h.0 k.0 h.1 k.1) ∙ sym k.2
