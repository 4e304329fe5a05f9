use Rattle.key_order.specs.Stretches.{is_inside, side_inside}
use Rattle.key_order.proofs.StretchLemmas.{stretch, is_inside_by_side}
use Rattle.key_order.proofs.stretch.inside.Goals as goal

pub returns : goal.returns
returns g c =
    let key_of = g.T.Keyed.key_of in
    stretch (λ x. side_inside c.args.group.now c.args.resource.now c.args.namespace.now (key_of x)) c.args.items.now c.bounds_inside-start.result.0 c.bounds_inside-start.result.1 c.bounds_inside-start.ensures
    (λ x. is_inside c.args.group.now c.args.resource.now c.args.namespace.now (key_of x)) (λ x. is_inside_by_side c.args.group.now c.args.resource.now c.args.namespace.now (key_of x))
