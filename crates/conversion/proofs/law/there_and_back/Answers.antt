use Rattle.conversion.proofs.FaultLemmas.{fits_alike, goes_back}
use Rattle.conversion.proofs.law.there_and_back.Goals as goal

pub returns : goal.returns
returns c = record {
  fits = fits_alike c.args.table.now.rows c.args.other.now.rows c.args.fields.now c.requires.same c.requires.fits;
  same = goes_back c.args.table.now.rows c.args.other.now.rows c.args.fields.now c.requires.lawful c.requires.other_lawful c.requires.fits c.requires.same;
}
