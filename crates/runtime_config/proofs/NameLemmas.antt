-- The order of names.
use Rattle.std.proofs.Common.{rules}
use Rattle.std.specs.Cmp.{IsTotalOrder}
use Rattle.std.specs.Cmp.Rules.{comparing}
use Rattle.std.proofs.lemmas.Map.Lookups.{CmpEqualImpliesEq, exact_bytes}
use Rattle.runtime_config.specs.Served.{by_name}
use Rattle.basis.proofs.OrderLemmas.{then_tied}

pub by_name_total : IsTotalOrder by_name
by_name_total = search (comparing, rules)

pub exact_names : CmpEqualImpliesEq by_name
exact_names a b h =
    let (front, resource) = then_tied _ _ h in
    let (group, version) = then_tied _ _ front in
    let g = exact_bytes a.group b.group group in
    let v = exact_bytes a.version b.version version in
    let r = exact_bytes a.resource b.resource resource in
    λ i. record { group = g i; version = v i; resource = r i }
