use Rattle.object_pages.proofs.FittingLemmas.{fit_resource}
use Rattle.request_target.specs.Targets.{resource_seen}
use Rattle.object_pages.proofs.law.held_objects_fit.Goals as goal

pub returns : goal.returns
returns c = fit_resource c.args.view.now.versions c.args.objects.now c.requires.held (resource_seen c.args.of) c.requires.told
