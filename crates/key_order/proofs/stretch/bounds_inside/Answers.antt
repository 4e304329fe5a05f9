use Rattle.std.proofs.Common.{rules}
use Rattle.std.specs.Ordering.{is_lt, is_le}
use Rattle.std.proofs.lemmas.List.Sorted.{IsPartitionPoint-from_clause}
use Rattle.key_order.specs.Stretches.{side_inside}
use Rattle.key_order.proofs.StretchLemmas.{before_parted, behind_parted, bounds, sides_inside_rise}
use Rattle.key_order.proofs.stretch.bounds_inside.Goals as goal

pub returns : goal.returns
returns g c =
    let items = c.args.items.now in
    let side = λ (x : g.row.T.Denot). side_inside c.args.group.now c.args.resource.now c.args.namespace.now (g.T.Keyed.key_of x) in
    let rises = sides_inside_rise g.T.Keyed.key_of items c.args.group.now c.args.resource.now c.args.namespace.now c.requires in
    let first = c.partition_point-start in
    let last = c.partition_point-end in
    bounds side items first.result last.result first.ensures.bound last.ensures.bound
    (IsPartitionPoint-from_clause (λ x. is_lt (side x)) items first.result first.ensures.partitioned (before_parted side items rises) (λ a r q k. search rules))
    (IsPartitionPoint-from_clause (λ x. is_le (side x)) items last.result last.ensures.partitioned (behind_parted side items rises) (λ a r q k. search rules))
