use Rattle.conversion.proofs.FaultLemmas.{fits_alike}
use Rattle.conversion.proofs.law.same_fields_fit_alike.Goals as goal

pub returns : goal.returns
returns c = λ held. fits_alike c.args.table.now.rows c.args.other.now.rows held c.requires
