use Rattle.std.proofs.Common.{rules}
use Rattle.std.proofs.lemmas.Fn.{always_returns_same}
use Rattle.object_journal.specs.KeyOrder.{by_key}
use Rattle.key_order.proofs.OrderLemmas.{place_found, gap_found}
use Rattle.key_order.proofs.keyed.place_of.Goals as goal

pub returns-clause-place : goal.returns-clause-place
returns-clause-place g c =
    let found = c.binary_search_by.ensures in
    place_found g.T.Keyed.key_of c.args.items.now c.args.key.now c.binary_search_by.result found.bound (found.position (λ x. by_key (g.T.Keyed.key_of x) c.args.key.now) (always_returns_same _ _ _ (λ a r f called. (search rules, search rules))))

pub returns-clause-gap : goal.returns-clause-gap
returns-clause-gap g c =
    let found = c.binary_search_by.ensures in
    gap_found g.T.Keyed.key_of c.args.items.now c.args.key.now c.binary_search_by.result c.requires found.bound (found.position (λ x. by_key (g.T.Keyed.key_of x) c.args.key.now) (always_returns_same _ _ _ (λ a r f called. (search rules, search rules))))
