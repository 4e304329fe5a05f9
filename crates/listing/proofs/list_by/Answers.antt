use Rattle.std.proofs.Common.{rules, true}
use Rattle.std.proofs.lemmas.Result.{IfOk-weaker}
use Rattle.listing.proofs.ListingLemmas.{all_listed}
use Rattle.listing.proofs.list_by.Goals as goal

pub returns : goal.returns
returns g c = IfOk-weaker c.list_those_by.result _ _ (λ m listing named names. all_listed named c.args.entries.now m (listing (λ x. true) named (λ x is_so told. search rules) names)) c.list_those_by.ensures
