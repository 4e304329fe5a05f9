use Rattle.key_order.specs.Stretches.{is_of, side_of}
use Rattle.key_order.proofs.StretchLemmas.{stretch, is_of_by_side}
use Rattle.key_order.proofs.stretch.of_resource.Goals as goal

pub returns : goal.returns
returns g c =
    let key_of = g.T.Keyed.key_of in
    stretch (λ x. side_of c.args.group.now c.args.resource.now (key_of x)) c.args.items.now c.bounds_of-start.result.0 c.bounds_of-start.result.1 c.bounds_of-start.ensures
    (λ x. is_of c.args.group.now c.args.resource.now (key_of x)) (λ x. is_of_by_side c.args.group.now c.args.resource.now (key_of x))
