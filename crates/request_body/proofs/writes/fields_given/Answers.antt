use Rattle.std.proofs.Common.{option_copied}
use Rattle.request_body.proofs.GivenLemmas.{kept_fits}
use Rattle.request_body.proofs.writes.fields_given.Goals as goal

pub returns-clause-fits : goal.returns-clause-fits
returns-clause-fits c =
    kept_fits c.args.place.of.table.now.rows (option_copied c.args.stored) c.in_ok-fields.fields c.drop_fields.new.new c.in_ok-fields.ensures.fits c.drop_fields.ensures
