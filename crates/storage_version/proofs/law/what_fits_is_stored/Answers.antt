use Rattle.storage_version.proofs.BackLemmas.{fits_storage, reads_fitting_storage}
use Rattle.storage_version.proofs.law.what_fits_is_stored.Goals as goal

pub returns : goal.returns
returns c = record {
  fits = fits_storage c.args.back.now.versions c.args.view.now.versions c.view_is_kept.ensures.alike;
  read = reads_fitting_storage c.args.back.now.versions c.args.view.now.versions c.release_reads_own.ensures.fitting;
}
