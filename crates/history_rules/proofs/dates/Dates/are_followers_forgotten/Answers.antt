use Rattle.history_rules.proofs.FollowerLemmas.{followed_by}
use Rattle.history_rules.proofs.dates.Dates.are_followers_forgotten.Goals as goal

pub returns : goal.returns
returns c = followed_by c.self.inside.entries.now c.args.self.now c.args.entry.now c.self.inside.followers c.value_of.result c.bytes-group.result.now c.bytes-version.result.now c.bytes-resource.result.now c.are_by.result c.self.invariant.followers c.self.view_is c.value_of.ensures c.bytes-group.ensures c.bytes-version.ensures c.bytes-resource.ensures c.are_by.ensures
